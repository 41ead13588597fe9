use Rattle.stream_op.specs.contracts.union.UnionStreamOp.TheImpl as union
use Rattle.query_meaning.proofs.StepOpLemmas.{union-goes}
use Rattle.query_meaning.proofs.step_advance.advance_union.Goals as goal

pub returns : goal.returns
returns c = union-goes _ (union.ghosts.stands c.in_ok-op.op) c.in_ok-op.ensures
