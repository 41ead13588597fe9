use Rattle.std.proofs.Common.{◌≡◌, List, [], take, refl, ap, ◌∙◌}
use Rattle.event_value.specs.declared.value.Value.{Value}
use Rattle.row_groups.specs.Groups.{with_item}
use Rattle.row_groups.specs.Keys.{key_of, key_order}
use Rattle.window_flow.specs.Groups.{Grouped, groups_of, with_last}
use Rattle.window_flow.specs.Parts.{key_behind}
use Rattle.window_flow.proofs.GroupLemmas.{groups_of-more}
use Rattle.window_flow.proofs.groups.Groups.of.Goals as goal

pub loop-row-preserved : goal.loop-row-preserved
loop-row-preserved c =
    let row = c.row-item.result in
    let others = c.args.others in
    let columns = c.args.columns in
    let key : c.in_ok-key.key ≡ key_behind others columns row =
    c.in_ok-key.ensures ∙ ap (key_of columns) (c.behind.ensures ∙ rw c.items.ensures refl) in
    c.in_ok-add.ensures
    ∙ ap (λ (gs : Grouped). with_item key_order [] with_last gs c.in_ok-key.key row) c.loop-row.invariant
    ∙ ap (λ (k : List Value). with_item key_order [] with_last (groups_of others columns (take c.loop-row.row-index c.args.rows.now)) k row) key
    ∙ groups_of-more others columns c.args.rows.now c.loop-row.row-index row c.loop-row-test.true c.row-item.is
