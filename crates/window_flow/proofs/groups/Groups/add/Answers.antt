use Rattle.std.proofs.Common.{◌≡◌, [], ◌∷◌, ◌++◌, List, refl, ap, sym, subst, ◌∙◌}
use Rattle.std.specs.Prelude.{Some, None}
use Rattle.std.specs.BTreeMap.{BTreeMap, insert_entry, is_at}
use Rattle.std.specs.List.Sorted.{IsStrictlySortedBy}
use Rattle.std.specs.Map.{lookup, set_value}
use Rattle.std.specs.declared.cmp.Ordering.{Ordering}
use Rattle.event_value.specs.declared.record.Stamped.{Stamped}
use Rattle.event_value.specs.declared.value.Value.{Value}
use Rattle.row_groups.proofs.GroupLemmas.{with_item-insert_entry, with_item-set_value}
use Rattle.row_groups.proofs.KeyLemmas.{key_order-total}
use Rattle.row_groups.specs.Groups.{keys_of, with_item}
use Rattle.row_groups.specs.Keys.{key_order}
use Rattle.window_flow.specs.Groups.{Grouped, with_last}
use Rattle.window_flow.proofs.GroupLemmas.{Rises-sorted, derived_key_order-is}
use Rattle.window_flow.proofs.groups.Groups.add.Goals as goal

pub returns-in_ok-push-in-Some : goal.returns-in_ok-push-in-Some
returns-in_ok-push-in-Some c =
    let key = c.args.key in
    let row = c.args.row.now in
    let entries = c.self.inside.groups.entries in
    let old = c.in-Some.rows.now in
    let rises = Rises-sorted key_order (keys_of entries) (subst (λ (R : List Value → List Value → Ordering). IsStrictlySortedBy R (keys_of entries)) derived_key_order-is c.in-Some.ensures.ordered) in
    let found : lookup (is_at (key_order key)) entries ≡ Some old =
    sym (c.in-Some.ensures.value ∙ ap (λ (R : List Value → List Value → Ordering). lookup (is_at (R key)) entries) derived_key_order-is) in
    (c.get_mut.follows.holds c.push.new.self).0
    ∙ ap (λ (R : List Value → List Value → Ordering). set_value (is_at (R key)) entries c.push.new.self) derived_key_order-is
    ∙ ap (λ (rows : List Stamped). set_value (is_at (key_order key)) entries rows) (c.in_ok-push-in-Some.ensures.ok ∙ ap (λ (r : Stamped). old ++ r ∷ []) c.in_ok-copy-in-Some.ensures)
    ∙ sym (with_item-set_value key_order [] with_last key_order-total entries key row old rises found)
    ∙ ap (λ (gs : Grouped). with_item key_order [] with_last gs key row) c.self.view_is

pub returns-in_ok-put-in-None : goal.returns-in_ok-put-in-None
returns-in_ok-put-in-None c =
    let key = c.args.key in
    let row = c.args.row.now in
    let groups = c.args.self.now in
    let none : lookup (is_at (key_order key)) groups ≡ None =
    sym (c.in-None.ensures.value
    ∙ ap (λ (R : List Value → List Value → Ordering). lookup (is_at (R key)) c.self.inside.groups.entries) derived_key_order-is
    ∙ ap (λ (gs : Grouped). lookup (is_at (key_order key)) gs) c.self.view_is) in
    let same : c.get_mut.follows.lender-at-none.entries ≡ groups =
    ap (λ (m : BTreeMap (List Value) (List Stamped)). m.entries) c.get_mut.follows.holds-at-none ∙ c.self.view_is in
    c.in_ok-put-in-None.ensures
    ∙ ap (λ (gs : Grouped). insert_entry key_order gs key c.push-in-None.new.self) same
    ∙ ap (λ (rows : List Stamped). insert_entry key_order groups key rows) (rw (c.in_ok-push-in-None.ensures.ok, c.empty-first.ensures, c.in_ok-copy-in-None.ensures) refl)
    ∙ sym (with_item-insert_entry key_order [] with_last key_order-total groups key row none)
