use Rattle.window_grid.proofs.RowLemmas.{AreGridRows-all}
use Rattle.window_grid.proofs.laws.grid_is_its_windows.Goals as goal

pub returns : goal.returns
returns c = AreGridRows-all
