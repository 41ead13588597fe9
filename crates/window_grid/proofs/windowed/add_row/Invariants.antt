use Rattle.std.proofs.Common.{◌≡◌, take, map}
use Rattle.window_grid.specs.State.{with_pane, with_row}
use Rattle.window_grid.specs.Windows.{key_in}
use Rattle.window_grid.proofs.windowed.add_row.Given as goal

abbrev pub invariant-loop-end : goal.invariant-loop-end
invariant-loop-end g l =
    let windows = g.S.Windows.windows l.spec in record {
      key : l.pane.key ≡ key_in windows l.row;
      added : l.panes ≡ with_row windows l.initial.panes (map (with_pane windows l.row) (take l.end-index l.end-items));
    }
