use Rattle.std.proofs.Common.{◌≡◌, ◌≤◌, ◌-◌, ◌+◌, ◌++◌, length, drop}
use Rattle.row_order.specs.Merge.{merge}
use Rattle.stream_op.specs.Rows.{time_of}
use Rattle.stream_op.proofs.union.merged.Given as goal

abbrev pub invariant-loop-i : goal.invariant-loop-i
invariant-loop-i l = record {
  in_left : l.i ≤ length l.left;
  in_right : l.j ≤ length l.right;
  rest : l.rows ++ merge time_of (drop l.i l.left) (drop l.j l.right) ≡ merge time_of l.left l.right;
}

abbrev pub decreases-loop-i : goal.decreases-loop-i
decreases-loop-i l = (length l.left - l.i) + (length l.right - l.j)
