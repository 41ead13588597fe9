use Rattle.std.proofs.Common.{◌≡◌, ◌++◌, drop}
use Rattle.query_windows.specs.Arguments as spec
use Rattle.query_windows.proofs.arguments.arguments_in.Given as goal

abbrev pub invariant-loop-arg : goal.invariant-loop-arg
invariant-loop-arg l =
    l.found ++ spec.arguments_of (drop l.arg-index l.arg-items) ≡
    l.initial.found ++ spec.arguments_of l.arg-items
