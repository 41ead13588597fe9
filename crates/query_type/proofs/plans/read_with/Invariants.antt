use Rattle.std.proofs.Common.{◌≡◌, drop}
use Rattle.query_type.specs.Plans as spec
use Rattle.query_type.proofs.plans.read_with.Given as goal

abbrev pub invariant-loop-def : goal.invariant-loop-def
invariant-loop-def l =
    spec.definitions_read l.progress (drop l.def-index l.def-items) ≡
    spec.definitions_read l.initial.progress l.def-items
