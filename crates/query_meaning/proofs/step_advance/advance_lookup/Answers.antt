use Rattle.std.proofs.Common.{sym, subst}
use Rattle.stream_joins.specs.contracts.join_cond.JoinCond as join_cond
use Rattle.stream_joins.specs.contracts.join_cond.JoinCondCopies.TheImpl as join_copies
use Rattle.stream_joins.specs.contracts.join_cond.JoinCondMatches.TheImpl as join_matches
use Rattle.stream_joins.specs.contracts.reference_join.ReferenceJoinStreamOp.TheImpl as reference_join
use Rattle.query_meaning.specs.Pipeline.{GoesOn}
use Rattle.query_meaning.specs.declared.step_op.JoinOp.TheVariants as join
use Rattle.query_meaning.specs.declared.step_op.StepOp.{StepOp}
use Rattle.query_meaning.specs.declared.step_op.StepOp.TheVariants as kind
use Rattle.query_meaning.proofs.StepOpLemmas.{lookup-goes}
use Rattle.query_meaning.proofs.step_advance.advance_lookup.Goals as goal

pub returns : goal.returns
returns c =
    subst (λ (next : StepOp). GoesOn (kind.Join (join.Lookup c.args.op)) c.args.left.now c.args.right.now c.args.upto next c.in_ok-op.rows) (sym c.in_ok-next.ensures)
    (lookup-goes _ ((reference_join.ghosts join_cond.the_row join_matches.ghosts reference_join.no_dict join_copies.ghosts reference_join.no_dict reference_join.no_dict).stands c.in_ok-op.op) c.in_ok-op.ensures)
