use Rattle.std.proofs.Common.{◌≡◌, ◌++◌, drop}
use Rattle.query_sources.specs.ScriptNames as spec
use Rattle.query_sources.proofs.script_names.push_with.Given as goal

abbrev pub invariant-loop-def : goal.invariant-loop-def
invariant-loop-def l =
    l.names ++ spec.names_of_defs (drop l.def-index l.def-items) ≡
    l.initial.names ++ spec.names_of_defs l.def-items
