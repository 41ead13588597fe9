use Rattle.std.proofs.Common.{◌≡◌, ◌++◌, drop}
use Rattle.query_sources.specs.ScriptNames as spec
use Rattle.query_sources.proofs.script_names.push_selects.Given as goal

abbrev pub invariant-loop-select : goal.invariant-loop-select
invariant-loop-select l =
    l.names ++ spec.names_of_selects (drop l.select-index l.selects) ≡
    l.fn.names ++ spec.names_of_selects l.selects
