use Rattle.std.proofs.Common.{◌∙◌}
use Rattle.stream_op.specs.OperatorLaws.{united-timewise}
use Rattle.stream_op.specs.TimewiseLaws.{IsTimewise-next}
use Rattle.stream_op.proofs.RowLemmas.{AreTaken-next}
use Rattle.stream_op.proofs.union.UnionStreamOp.advance.Goals as goal

pub returns : goal.returns
returns c = λ spec left right w taken le a b.
    let u = c.args.upto in
    let new_left = c.args.left.now in
    let new_right = c.args.right.now in (
      c.in_ok-rows.ensures
          ∙ IsTimewise-next (united-timewise spec) w u left new_left right new_right taken.left_before a taken.right_before b,
      AreTaken-next w u left new_left right new_right le taken a b,
    )
