use Rattle.std.proofs.Common.{◌≡◌, Some, None, List, ap, sym, subst, ◌∙◌}
use Rattle.std.specs.BTreeMap.{BTreeMap, insert_entry, is_at}
use Rattle.std.specs.List.Sorted.{IsStrictlySortedBy}
use Rattle.std.specs.Map.{lookup, set_value}
use Rattle.std.specs.declared.cmp.Ordering.{Ordering}
use Rattle.row_groups.proofs.GroupLemmas.{with_item-insert_entry, with_item-set_value}
use Rattle.row_groups.specs.Groups.{keys_of, with_item}
use Rattle.row_groups.specs.Tallies.{tallies_start, tallies_with}
use Rattle.row_groups.specs.declared.tally.Tally.{Tally}
use Rattle.window_grid.proofs.PaneLemmas.{Rises-sorted, derived_pane_order-is}
use Rattle.window_grid.specs.Panes.{pane_order}
use Rattle.window_grid.specs.State.{Tallied}
use Rattle.window_grid.specs.WindowLaws.{pane_order-total}
use Rattle.window_grid.specs.declared.pane.Pane.{Pane}
use Rattle.window_grid.proofs.panes.Panes.add.Goals as goal

pub returns-in_ok-add-in-Some : goal.returns-in_ok-add-in-Some
returns-in_ok-add-in-Some c =
    let aggregates = c.args.aggregates.now in
    let start = tallies_start aggregates in
    let pane = c.args.pane.now in
    let row = c.args.row.now in
    let entries = c.self.inside.panes.entries in
    let old = c.in-Some.tallies.now in
    let rises = Rises-sorted pane_order (keys_of entries) (subst (λ (R : Pane → Pane → Ordering). IsStrictlySortedBy R (keys_of entries)) derived_pane_order-is c.in-Some.ensures.ordered) in
    let found : lookup (is_at (pane_order pane)) entries ≡ Some old =
    sym (c.in-Some.ensures.value ∙ ap (λ (R : Pane → Pane → Ordering). lookup (is_at (R pane)) entries) derived_pane_order-is) in
    (c.get_mut.follows.holds c.add.new.self).0
    ∙ ap (λ (R : Pane → Pane → Ordering). set_value (is_at (R pane)) entries c.add.new.self) derived_pane_order-is
    ∙ ap (λ (tallies : List Tally). set_value (is_at (pane_order pane)) entries tallies) c.in_ok-add-in-Some.ensures
    ∙ sym (with_item-set_value pane_order start tallies_with pane_order-total entries pane row old rises found)
    ∙ ap (λ (gs : Tallied). with_item pane_order start tallies_with gs pane row) c.self.view_is

pub returns-in_ok-put-in-None : goal.returns-in_ok-put-in-None
returns-in_ok-put-in-None c =
    let aggregates = c.args.aggregates.now in
    let start = tallies_start aggregates in
    let pane = c.args.pane.now in
    let row = c.args.row.now in
    let panes = c.args.self.now in
    let none : lookup (is_at (pane_order pane)) panes ≡ None =
    sym (c.in-None.ensures.value
    ∙ ap (λ (R : Pane → Pane → Ordering). lookup (is_at (R pane)) c.self.inside.panes.entries) derived_pane_order-is
    ∙ ap (λ (gs : Tallied). lookup (is_at (pane_order pane)) gs) c.self.view_is) in
    let same : c.get_mut.follows.lender-at-none.entries ≡ panes =
    ap (λ (m : BTreeMap Pane (List Tally)). m.entries) c.get_mut.follows.holds-at-none ∙ c.self.view_is in
    c.in_ok-put-in-None.ensures
    ∙ ap (λ (gs : Tallied). insert_entry pane_order gs c.in_ok-copy-in-None.field-0 c.add-in-None.new.self) same
    ∙ ap (λ (p : Pane). insert_entry pane_order panes p c.add-in-None.new.self) c.in_ok-copy-in-None.ensures
    ∙ ap (λ (tallies : List Tally). insert_entry pane_order panes pane tallies) (c.in_ok-add-in-None.ensures ∙ ap (λ (tallies : List Tally). tallies_with tallies row) c.in_ok-first-in-None.ensures)
    ∙ sym (with_item-insert_entry pane_order start tallies_with pane_order-total panes pane row none)
