use Rattle.std.proofs.Common.{◌≡◌, ◌++◌, drop}
use Rattle.query_sources.specs.ScriptNames as spec
use Rattle.query_sources.proofs.script_names.names_of_script.Given as goal

abbrev pub invariant-loop-more : goal.invariant-loop-more
invariant-loop-more l =
    l.names ++ spec.names_of_statements (drop l.more-index l.more-items) ≡
    l.initial.names ++ spec.names_of_statements l.more-items
