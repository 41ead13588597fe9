use Rattle.std.proofs.Common.{◌≡◌, ◌++◌, take}
use Rattle.query_windows.specs.Aggregates as spec
use Rattle.query_windows.proofs.aggregates.push_key_exprs.Given as goal

abbrev pub invariant-loop-key : goal.invariant-loop-key
invariant-loop-key l =
    l.exprs ≡ l.fn.exprs ++ spec.key_exprs (take l.key-index l.keys)
