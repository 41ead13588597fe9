use Rattle.std.proofs.Common.{◌≡◌, ◌+◌, ◌++◌, drop}
use Rattle.query_senses.specs.Conjunctions as spec
use Rattle.query_senses.proofs.conjunctions.read_and_without.Given as goal

abbrev pub invariant-loop-number : goal.invariant-loop-number
invariant-loop-number l =
    l.parts ++ spec.others_from l.scope (l.number + 1) l.without (drop l.number l.part-items) ≡
    l.initial.parts ++ spec.others_from l.scope 1 l.without l.part-items
