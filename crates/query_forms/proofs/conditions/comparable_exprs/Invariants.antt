use Rattle.std.proofs.Common.{◌≡◌, drop, []}
use Rattle.query_forms.specs.Senses as spec
use Rattle.query_forms.proofs.conditions.comparable_exprs.Given as goal

abbrev pub invariant-loop-item : goal.invariant-loop-item
invariant-loop-item l =
    spec.comparable_from l.kind l.exprs (drop l.item-index l.items) ≡
    spec.comparable_from l.kind [] l.items
