use Rattle.std.proofs.Common.{◌≡◌, ◌++◌, map, take}
use Rattle.query_sources.specs.ScriptNames as spec
use Rattle.query_sources.proofs.script_names.push_tail.Given as goal

abbrev pub invariant-loop-join : goal.invariant-loop-join
invariant-loop-join l =
    l.names ≡ l.initial.names ++ map spec.name_of_join (take l.join-index l.join-items)
