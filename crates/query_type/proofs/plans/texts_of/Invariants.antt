use Rattle.std.proofs.Common.{◌≡◌, take}
use Rattle.query_type.specs.Plans as spec
use Rattle.query_type.proofs.plans.texts_of.Given as goal

abbrev pub invariant-loop-name : goal.invariant-loop-name
invariant-loop-name l =
    l.texts ≡ spec.texts_of (take l.name-index l.names)
