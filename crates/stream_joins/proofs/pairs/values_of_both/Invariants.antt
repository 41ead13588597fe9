use Rattle.std.proofs.Common.{◌≡◌, ◌++◌, take}
use Rattle.stream_joins.proofs.pairs.values_of_both.Given as goal

abbrev pub invariant-loop-value : goal.invariant-loop-value
invariant-loop-value l = l.values ≡ l.left ++ take l.value-index l.right
