use Rattle.std.proofs.Common.{◌≡◌, ap, ◌∙◌, take, map, arith}
use Rattle.std.proofs.lemmas.List.{take_all}
use Rattle.stream_op.specs.OperatorLaws.{projected-timewise}
use Rattle.stream_op.specs.Operators.{with_values}
use Rattle.stream_op.specs.TimewiseLaws.{IsTimewise-next}
use Rattle.stream_op.proofs.RowLemmas.{AreTaken-next}
use Rattle.stream_op.proofs.project.ProjectStreamOp.advance.Goals as goal

pub returns : goal.returns
returns g c =
    let built = g.B.RowBuild.built in
    let u = c.args.upto in
    let new_left = c.args.left.now in
    let new_right = c.args.right.now in
    let all : take c.loop-row.row-index new_left ≡ new_left = take_all c.loop-row.row-index new_left (omega arith) in
    λ build left right w stands le a b. (
      c.loop-row.invariant
          ∙ ap (map (with_values built c.args.self.build)) all
          ∙ ap (λ b. map (with_values built b) new_left) stands.0
          ∙ IsTimewise-next (projected-timewise built build) w u left new_left right new_right stands.1.left_before a stands.1.right_before b,
      (stands.0, AreTaken-next w u left new_left right new_right le stands.1 a b),
    )
