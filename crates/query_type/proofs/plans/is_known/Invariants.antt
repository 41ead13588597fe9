use Rattle.std.proofs.Common.{◌≡◌, drop}
use Rattle.query_type.specs.Plans as spec
use Rattle.query_type.proofs.plans.is_known.Given as goal

abbrev pub invariant-loop-source : goal.invariant-loop-source
invariant-loop-source l =
    spec.is_known (drop l.source-index l.known) l.name ≡ spec.is_known l.known l.name
