use Rattle.std.proofs.Common.{IfOk, sym, subst}
use Rattle.query_meaning.specs.Pipeline.{GoesOn}
use Rattle.query_meaning.specs.declared.step_op.JoinOp.{JoinOp}
use Rattle.query_meaning.specs.declared.step_op.StepOp.TheVariants as kind
use Rattle.query_meaning.proofs.step_advance.advance_join.Goals as goal

pub returns-in-Bound : goal.returns-in-Bound
returns-in-Bound c =
    subst (λ (o : JoinOp). IfOk c.advance_bound.result (λ p. GoesOn (kind.Join o) c.args.left.now c.args.right.now c.args.upto p.0 p.1)) (sym c.in-Bound.is) c.advance_bound.ensures

pub returns-in-Lookup : goal.returns-in-Lookup
returns-in-Lookup c =
    subst (λ (o : JoinOp). IfOk c.advance_lookup.result (λ p. GoesOn (kind.Join o) c.args.left.now c.args.right.now c.args.upto p.0 p.1)) (sym c.in-Lookup.is) c.advance_lookup.ensures
