use Rattle.stream_op.specs.contracts.filter.FilterStreamOp.TheImpl as filter
use Rattle.query_meaning.specs.contracts.row_specs.RowCond as row_cond
use Rattle.query_meaning.specs.contracts.row_specs.RowCondCopies.TheImpl as cond_copies
use Rattle.query_meaning.specs.contracts.row_specs.RowCondRowTest.TheImpl as cond_test
use Rattle.query_meaning.proofs.StepOpLemmas.{filter-goes}
use Rattle.query_meaning.proofs.step_advance.advance_filter.Goals as goal

pub returns : goal.returns
returns c = filter-goes _ ((filter.ghosts row_cond.the_row cond_test.ghosts filter.no_dict cond_copies.ghosts filter.no_dict filter.no_dict).stands c.in_ok-op.op) c.in_ok-op.ensures
