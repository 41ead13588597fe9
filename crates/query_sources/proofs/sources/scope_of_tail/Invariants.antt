use Rattle.std.proofs.Common.{◌≡◌, drop}
use Rattle.query_sources.specs.Sources as spec
use Rattle.query_sources.proofs.sources.scope_of_tail.Given as goal

abbrev pub invariant-loop-join : goal.invariant-loop-join
invariant-loop-join l =
    spec.scope_sources_from l.known l.sources (drop l.join-index l.join-items) ≡
    spec.scope_sources_from l.known l.initial.sources l.join-items
