use Rattle.std.proofs.Common.{◌≡◌, drop}
use Rattle.query_type.specs.Plans as spec
use Rattle.query_type.proofs.uses.use_of.Given as goal

abbrev pub invariant-loop-mention : goal.invariant-loop-mention
invariant-loop-mention l =
    spec.use_of (drop l.mention-index l.mentions) l.stream ≡ spec.use_of l.mentions l.stream
