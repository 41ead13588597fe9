use Rattle.stream_op.specs.contracts.project.ProjectStreamOp.TheImpl as project
use Rattle.query_meaning.specs.contracts.row_specs.RowExprs as row_exprs
use Rattle.query_meaning.specs.contracts.row_specs.RowExprsCopies.TheImpl as exprs_copies
use Rattle.query_meaning.specs.contracts.row_specs.RowExprsRowBuild.TheImpl as exprs_build
use Rattle.query_meaning.proofs.StepOpLemmas.{project-goes}
use Rattle.query_meaning.proofs.step_advance.advance_project.Goals as goal

pub returns : goal.returns
returns c = project-goes _ ((project.ghosts row_exprs.the_row exprs_build.ghosts project.no_dict exprs_copies.ghosts project.no_dict project.no_dict).stands c.in_ok-op.op) c.in_ok-op.ensures
