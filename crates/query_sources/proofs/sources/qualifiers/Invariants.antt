use Rattle.std.proofs.Common.{◌≡◌, ◌++◌, map, take}
use Rattle.query_sources.specs.Sources as spec
use Rattle.query_sources.proofs.sources.qualifiers.Given as goal

abbrev pub invariant-loop-join : goal.invariant-loop-join
invariant-loop-join l =
    l.names ≡ l.initial.names ++ map spec.qualifier_of_join (take l.join-index l.join-items)
