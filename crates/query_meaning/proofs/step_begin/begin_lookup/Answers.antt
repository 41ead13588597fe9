use Rattle.std.proofs.Common.{[], sym, subst}
use Rattle.std.proofs.lemmas.Result.{IfOk-weaker}
use Rattle.query_plan.specs.declared.expr.Cond.{Cond}
use Rattle.stream_joins.specs.Snapshots.{Snapshots}
use Rattle.stream_joins.specs.contracts.join_cond.JoinCond as join_cond
use Rattle.stream_joins.specs.contracts.join_cond.JoinCondCopies.TheImpl as join_copies
use Rattle.stream_joins.specs.contracts.join_cond.JoinCondMatches.TheImpl as join_matches
use Rattle.stream_joins.specs.contracts.reference_join.ReferenceJoinStreamOp.TheImpl as reference_join
use Rattle.query_meaning.specs.Pipeline.{has_taken}
use Rattle.query_meaning.specs.Steps.{reference_spec}
use Rattle.query_meaning.specs.declared.step_op.StepOp.{StepOp}
use Rattle.query_meaning.proofs.step_begin.begin_lookup.Goals as goal

pub returns : goal.returns
returns c =
    let step = c.args.step.now in
    let over = subst (λ (cond : Cond). (reference_join.ghosts join_cond.the_row join_matches.ghosts reference_join.no_dict join_copies.ghosts reference_join.no_dict reference_join.no_dict).stands
    c.in_ok-begin.field-0 (reference_spec step.width c.in_ok-copy.field-0 cond c.args.outer) [] [] 0) c.in_ok-of.ensures c.in_ok-begin.ensures in
    let begun = subst (λ (snapshots : Snapshots). (reference_join.ghosts join_cond.the_row join_matches.ghosts reference_join.no_dict join_copies.ghosts reference_join.no_dict reference_join.no_dict).stands
    c.in_ok-begin.field-0 (reference_spec step.width snapshots c.args.cond.now c.args.outer) [] [] 0) c.in_ok-copy.ensures over in
    IfOk-weaker c.boxed_join.result _ _
    (λ op made first reference is. subst (λ (o : StepOp). has_taken o step [] [] 0) (sym made)
    ((first, reference, c.args.cond.now, c.args.outer, is, begun), begun.1))
    c.boxed_join.ensures
