use Rattle.std.proofs.Common.{◌≡◌, drop}
use Rattle.query_type.specs.Items as spec
use Rattle.query_type.proofs.items.read_items.Given as goal

abbrev pub invariant-loop-item : goal.invariant-loop-item
invariant-loop-item l =
    spec.with_items l.scope l.side l.picked (drop l.item-index l.item-items) ≡
    spec.with_items l.scope l.side l.initial.picked l.item-items
