use Rattle.std.proofs.Common.{◌≡◌, take, filter}
use Rattle.stream_op.proofs.filter.FilterStreamOp.advance.Given as goal

abbrev pub invariant-loop-row : goal.invariant-loop-row
invariant-loop-row g l = l.passing ≡ filter (g.T.RowTest.passes l.self.test) (take l.row-index l.left)
