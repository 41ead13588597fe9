use Rattle.std.proofs.Common.{◌≡◌, drop}
use Rattle.query_type.specs.Plans as spec
use Rattle.query_type.proofs.plans.is_output_name.Given as goal

abbrev pub invariant-loop-byte : goal.invariant-loop-byte
invariant-loop-byte l =
    spec.is_output_name (drop l.byte-index l.name) ≡ spec.is_output_name l.name
