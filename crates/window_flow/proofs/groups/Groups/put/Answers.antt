use Rattle.std.proofs.Common.{List, ap, ◌∙◌}
use Rattle.std.specs.BTreeMap.{insert_entry}
use Rattle.std.specs.declared.cmp.Ordering.{Ordering}
use Rattle.event_value.specs.declared.value.Value.{Value}
use Rattle.row_groups.specs.Keys.{key_order}
use Rattle.window_flow.specs.Groups.{Grouped}
use Rattle.window_flow.proofs.GroupLemmas.{derived_key_order-is}
use Rattle.window_flow.proofs.groups.Groups.put.Goals as goal

pub returns : goal.returns
returns c =
    c.in_ok-insert.ensures.entries
    ∙ ap (λ (R : List Value → List Value → Ordering). insert_entry R c.self.inside.groups.entries c.args.key c.args.rows) derived_key_order-is
    ∙ ap (λ (gs : Grouped). insert_entry key_order gs c.args.key c.args.rows) c.self.view_is
