use Rattle.std.proofs.Common.{sym, subst}
use Rattle.window_grid.specs.contracts.snapshot.SnapshotSpec as snapshot_spec
use Rattle.window_grid.specs.contracts.snapshot.SnapshotSpecCopies.TheImpl as snapshot_copies
use Rattle.window_grid.specs.contracts.snapshot.SnapshotSpecWindows.TheImpl as snapshot_windows
use Rattle.window_grid.specs.contracts.windowed.WindowedStreamOp.TheImpl as windowed
use Rattle.query_meaning.specs.Pipeline.{GoesOn}
use Rattle.query_meaning.specs.declared.step_op.WindowOp.TheVariants as window
use Rattle.query_meaning.specs.declared.step_op.StepOp.{StepOp}
use Rattle.query_meaning.specs.declared.step_op.StepOp.TheVariants as kind
use Rattle.query_meaning.proofs.StepOpLemmas.{snapshot-goes}
use Rattle.query_meaning.proofs.step_advance.advance_snapshot.Goals as goal

pub returns : goal.returns
returns c =
    subst (λ (next : StepOp). GoesOn (kind.Window (window.Snapshot c.args.op)) c.args.left.now c.args.right.now c.args.upto next c.in_ok-op.rows) (sym c.in_ok-next.ensures)
    (snapshot-goes _ ((windowed.ghosts snapshot_spec.the_row snapshot_windows.ghosts windowed.no_dict snapshot_copies.ghosts windowed.no_dict windowed.no_dict).stands c.in_ok-op.op) c.in_ok-op.ensures)
