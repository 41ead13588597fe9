use Rattle.std.proofs.Common.{◌≡◌, take}
use Rattle.std.specs.List.{flat_map}
use Rattle.stream_joins.specs.Bound.{rows_of}
use Rattle.stream_joins.specs.Specs.{bound_of}
use Rattle.stream_op.specs.Rows.{AreInOrder, between}
use Rattle.stream_joins.proofs.bound_join.rows_within.Given as goal

abbrev pub invariant-loop-row : goal.invariant-loop-row
invariant-loop-row g l =
    AreInOrder l.right → l.rows ≡ between l.stretch.from l.stretch.upto
    (flat_map (rows_of (bound_of g.M.Matches.pairs l.spec) l.right) (take l.row-index l.row-items))
