use Rattle.std.proofs.Common.{◌≡◌, ◌++◌, drop}
use Rattle.query_windows.specs.Aggregates as spec
use Rattle.query_windows.proofs.aggregates.call_columns.Given as goal

abbrev pub invariant-loop-call : goal.invariant-loop-call
invariant-loop-call l =
    l.columns ++ spec.call_columns l.number (drop l.call-index l.calls) ≡
    spec.call_columns l.fn.keys l.calls
