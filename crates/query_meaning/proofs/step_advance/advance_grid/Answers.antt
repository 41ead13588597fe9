use Rattle.std.proofs.Common.{◌≡◌, true, sym, subst}
use Rattle.window_grid.specs.contracts.grid.GridSpec as grid_spec
use Rattle.window_grid.specs.contracts.grid.GridSpecCopies.TheImpl as grid_copies
use Rattle.window_grid.specs.contracts.grid.GridSpecWindows.TheImpl as grid_windows
use Rattle.window_grid.specs.contracts.windowed.WindowedStreamOp.TheImpl as windowed
use Rattle.window_grid.specs.Grid.{grid_fits}
use Rattle.window_grid.specs.declared.grid.GridSpec.{GridSpec}
use Rattle.query_meaning.specs.Pipeline.{GoesOn}
use Rattle.query_meaning.specs.declared.step_op.WindowOp.TheVariants as window
use Rattle.query_meaning.specs.declared.step_op.StepOp.{StepOp}
use Rattle.query_meaning.specs.declared.step_op.StepOp.TheVariants as kind
use Rattle.query_meaning.proofs.StepOpLemmas.{grid-goes}
use Rattle.query_meaning.proofs.step_advance.advance_grid.Goals as goal

pub returns : goal.returns
returns c =
    subst (λ (next : StepOp). GoesOn (kind.Window (window.Grid c.args.op)) c.args.left.now c.args.right.now c.args.upto next c.in_ok-op.rows) (sym c.in_ok-next.ensures)
    (grid-goes _ ((windowed.ghosts grid_spec.the_row grid_windows.ghosts windowed.no_dict grid_copies.ghosts windowed.no_dict windowed.no_dict).stands c.in_ok-op.op) (λ spec l r w given. subst (λ (s : GridSpec). grid_fits s ≡ true) given.0 c.args.op.fitting) c.in_ok-op.ensures)
