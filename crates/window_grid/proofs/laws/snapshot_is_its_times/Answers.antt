use Rattle.window_grid.proofs.RowLemmas.{AreSnapshotRows-all}
use Rattle.window_grid.proofs.laws.snapshot_is_its_times.Goals as goal

pub returns : goal.returns
returns c = AreSnapshotRows-all
