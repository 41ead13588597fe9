use Rattle.std.proofs.Common.{◌≡◌, ◌++◌, map}
use Rattle.window_grid.specs.State.{row_of}
use Rattle.window_grid.proofs.panes.Panes.rows.Given as goal

abbrev pub invariant-loop-pane : goal.invariant-loop-pane
invariant-loop-pane l = l.rows ++ map row_of l.pane-iterator ≡ map row_of l.self
