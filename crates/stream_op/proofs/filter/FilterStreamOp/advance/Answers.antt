use Rattle.std.proofs.Common.{◌≡◌, ap, ◌∙◌, take, filter, arith}
use Rattle.std.proofs.lemmas.List.{take_all}
use Rattle.stream_op.specs.OperatorLaws.{filtered-timewise}
use Rattle.stream_op.specs.TimewiseLaws.{IsTimewise-next}
use Rattle.stream_op.proofs.RowLemmas.{AreTaken-next}
use Rattle.stream_op.proofs.filter.FilterStreamOp.advance.Goals as goal

pub returns : goal.returns
returns g c =
    let passes = g.T.RowTest.passes in
    let u = c.args.upto in
    let new_left = c.args.left.now in
    let new_right = c.args.right.now in
    let all : take c.loop-row.row-index new_left ≡ new_left = take_all c.loop-row.row-index new_left (omega arith) in
    λ test left right w stands le a b. (
      c.loop-row.invariant
          ∙ ap (filter (passes c.args.self.test)) all
          ∙ ap (λ t. filter (passes t) new_left) stands.0
          ∙ IsTimewise-next (filtered-timewise passes test) w u left new_left right new_right stands.1.left_before a stands.1.right_before b,
      (stands.0, AreTaken-next w u left new_left right new_right le stands.1 a b),
    )
