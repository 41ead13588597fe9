use Rattle.std.proofs.Common.{◌≡◌, ap, sym, subst, ◌∙◌}
use Rattle.stream_op.specs.Rows.{AreInOrder, between}
use Rattle.query_meaning.specs.Steps.{first_rows, second_rows}
use Rattle.query_meaning.proofs.PlanLemmas.{first_rows-order}
use Rattle.query_meaning.proofs.PipelineLemmas.{IsGiven-next, done-in_order, first_rows-new, second_rows-new}
use Rattle.query_meaning.proofs.pipeline.advance_step.Goals as goal

pub returns : goal.returns
returns c = λ streams before le h k new is given.
    let w = c.args.from in
    let u = c.args.upto in
    let step = c.args.step.now in
    let plain = step.step in
    let sources = c.args.sources.now in
    let done = c.args.done.now in
    let first = c.first_rows.ensures in
    let in_order : AreInOrder c.first_rows.result.now = subst AreInOrder (sym first) (first_rows-order sources done plain new.in_order (done-in_order w u before done k is)) in
    let left : c.rows_between-left.result.now ≡ between w u (first_rows streams before plain) =
    c.rows_between-left.ensures in_order ∙ ap (between w u) first ∙ first_rows-new w u streams before sources done plain new is in
    let right : c.second_rows-right.result.now ≡ between w u (second_rows before plain) =
    c.second_rows-right.ensures ∙ second_rows-new w u before done plain is in
    IsGiven-next w u streams before c.args.op c.in_ok-next.next step _ _ c.in_ok-next.rows le h k left right given c.in_ok-next.ensures
