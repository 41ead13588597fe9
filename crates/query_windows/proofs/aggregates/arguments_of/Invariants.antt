use Rattle.std.proofs.Common.{◌≡◌, drop}
use Rattle.query_windows.specs.Aggregates as spec
use Rattle.query_windows.proofs.aggregates.arguments_of.Given as goal

abbrev pub invariant-loop-call : goal.invariant-loop-call
invariant-loop-call l =
    spec.with_calls l.arguments (drop l.call-index l.calls) ≡
    spec.with_calls l.initial.arguments l.calls
