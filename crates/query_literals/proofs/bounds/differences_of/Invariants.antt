use Rattle.std.proofs.Common.{◌≡◌, ◌+◌, drop}
use Rattle.query_literals.specs.Bounds as spec
use Rattle.query_literals.proofs.bounds.differences_of.Given as goal

abbrev pub invariant-loop-number : goal.invariant-loop-number
invariant-loop-number l =
    spec.differences_from l.left l.right l.found (l.number + 1) (drop l.number l.part-items) ≡
    spec.differences_from l.left l.right l.initial.found 1 l.part-items
