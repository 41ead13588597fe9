use Rattle.std.proofs.Common.{◌≡◌, drop}
use Rattle.query_type.specs.Plans as spec
use Rattle.query_type.proofs.plans.read_script.Given as goal

abbrev pub invariant-loop-more : goal.invariant-loop-more
invariant-loop-more l =
    spec.statements_read l.progress (drop l.more-index l.more-items) ≡
    spec.statements_read l.initial.progress l.more-items
