use Rattle.std.proofs.Common.{◌≡◌, take, map}
use Rattle.stream_op.specs.Operators.{with_values}
use Rattle.stream_op.proofs.project.ProjectStreamOp.advance.Given as goal

abbrev pub invariant-loop-row : goal.invariant-loop-row
invariant-loop-row g l = l.built ≡ map (with_values g.B.RowBuild.built l.self.build) (take l.row-index l.left)
