use Rattle.std.proofs.lemmas.Result.{IfOk-weaker}
use Rattle.query_meaning.proofs.step_op.StepOpStreamOp.begin.Goals as goal

pub returns-in-Grid : goal.returns-in-Grid
returns-in-Grid c =
    IfOk-weaker c.begin_grid.result _ _ (λ op begun. begun c.args.spec.now c.in-Grid.from c.in-Grid.is) c.begin_grid.ensures

pub returns-in-Sliding : goal.returns-in-Sliding
returns-in-Sliding c =
    IfOk-weaker c.begin_sliding.result _ _ (λ op begun. begun c.args.spec.now c.in-Sliding.from c.in-Sliding.is) c.begin_sliding.ensures

pub returns-in-Session : goal.returns-in-Session
returns-in-Session c =
    IfOk-weaker c.begin_session.result _ _ (λ op begun. begun c.args.spec.now c.in-Session.from c.in-Session.is) c.begin_session.ensures

pub returns-in-Join : goal.returns-in-Join
returns-in-Join c =
    IfOk-weaker c.begin_join.result _ _ (λ op begun. begun c.in-Join.left c.in-Join.right c.in-Join.is) c.begin_join.ensures
