use Rattle.std.proofs.Common.{◌≡◌, ◌++◌, drop}
use Rattle.query_type.specs.Plans as spec
use Rattle.query_type.proofs.uses.uses_of.Given as goal

abbrev pub invariant-loop-stream : goal.invariant-loop-stream
invariant-loop-stream l =
    l.uses ++ spec.uses_of l.mentions (drop l.stream-index l.used) ≡ spec.uses_of l.mentions l.used
