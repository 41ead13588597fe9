use Rattle.std.proofs.Common.{◌≡◌, ◌++◌, drop}
use Rattle.query_windows.specs.Aggregates as spec
use Rattle.query_windows.proofs.aggregates.push_calls_in_list.Given as goal

abbrev pub invariant-loop-item : goal.invariant-loop-item
invariant-loop-item l =
    l.calls ++ spec.calls_in_list l.scope (drop l.item-index l.items) ≡
    l.fn.calls ++ spec.calls_in_list l.scope l.items
