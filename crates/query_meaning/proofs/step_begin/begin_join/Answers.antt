use Rattle.std.proofs.Common.{[], sym, subst}
use Rattle.std.proofs.lemmas.Result.{IfOk-weaker}
use Rattle.query_plan.specs.declared.expr.Cond.{Cond}
use Rattle.stream_joins.specs.contracts.bound_join.BoundJoinStreamOp.TheImpl as bound_join
use Rattle.stream_joins.specs.contracts.join_cond.JoinCond as join_cond
use Rattle.stream_joins.specs.contracts.join_cond.JoinCondCopies.TheImpl as join_copies
use Rattle.stream_joins.specs.contracts.join_cond.JoinCondMatches.TheImpl as join_matches
use Rattle.query_meaning.specs.Pipeline.{has_taken}
use Rattle.query_meaning.specs.Steps.{bound_spec}
use Rattle.query_meaning.specs.declared.step_op.StepOp.{StepOp}
use Rattle.query_meaning.proofs.step_begin.begin_join.Goals as goal

pub returns : goal.returns
returns c =
    let step = c.args.step.now in
    let begun = subst (λ (cond : Cond). (bound_join.ghosts join_cond.the_row join_matches.ghosts bound_join.no_dict join_copies.ghosts bound_join.no_dict bound_join.no_dict).stands
    c.in_ok-begin.field-0 (bound_spec step.width c.args.low c.args.high cond c.args.outer) [] [] 0) c.in_ok-of.ensures c.in_ok-begin.ensures in
    IfOk-weaker c.boxed_join.result _ _
    (λ op made first second is. subst (λ (o : StepOp). has_taken o step [] [] 0) (sym made)
    ((first, second, c.args.low, c.args.high, c.args.cond.now, c.args.outer, is, begun), begun.4))
    c.boxed_join.ensures
