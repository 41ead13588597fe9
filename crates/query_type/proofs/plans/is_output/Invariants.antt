use Rattle.std.proofs.Common.{◌≡◌, drop}
use Rattle.query_type.specs.Plans as spec
use Rattle.query_type.proofs.plans.is_output.Given as goal

abbrev pub invariant-loop-output : goal.invariant-loop-output
invariant-loop-output l =
    spec.is_output (drop l.output-index l.outputs) l.name ≡ spec.is_output l.outputs l.name
