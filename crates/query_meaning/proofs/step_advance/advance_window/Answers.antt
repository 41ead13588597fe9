use Rattle.std.proofs.Common.{IfOk, sym, subst}
use Rattle.query_meaning.specs.Pipeline.{GoesOn}
use Rattle.query_meaning.specs.declared.step_op.WindowOp.{WindowOp}
use Rattle.query_meaning.specs.declared.step_op.StepOp.TheVariants as kind
use Rattle.query_meaning.proofs.step_advance.advance_window.Goals as goal

pub returns-in-Grid : goal.returns-in-Grid
returns-in-Grid c =
    subst (λ (o : WindowOp). IfOk c.advance_grid.result (λ p. GoesOn (kind.Window o) c.args.left.now c.args.right.now c.args.upto p.0 p.1)) (sym c.in-Grid.is) c.advance_grid.ensures

pub returns-in-Snapshot : goal.returns-in-Snapshot
returns-in-Snapshot c =
    subst (λ (o : WindowOp). IfOk c.advance_snapshot.result (λ p. GoesOn (kind.Window o) c.args.left.now c.args.right.now c.args.upto p.0 p.1)) (sym c.in-Snapshot.is) c.advance_snapshot.ensures

pub returns-in-Sliding : goal.returns-in-Sliding
returns-in-Sliding c =
    subst (λ (o : WindowOp). IfOk c.advance_sliding.result (λ p. GoesOn (kind.Window o) c.args.left.now c.args.right.now c.args.upto p.0 p.1)) (sym c.in-Sliding.is) c.advance_sliding.ensures

pub returns-in-Session : goal.returns-in-Session
returns-in-Session c =
    subst (λ (o : WindowOp). IfOk c.advance_session.result (λ p. GoesOn (kind.Window o) c.args.left.now c.args.right.now c.args.upto p.0 p.1)) (sym c.in-Session.is) c.advance_session.ensures
