use Rattle.std.proofs.Common.{◌≡◌, take}
use Rattle.std.specs.List.{flat_map}
use Rattle.window_grid.specs.State.{with_panes, with_row}
use Rattle.window_grid.proofs.windowed.add_rows.Given as goal

abbrev pub invariant-loop-row : goal.invariant-loop-row
invariant-loop-row g l =
    let windows = g.S.Windows.windows l.spec in
    l.panes ≡ with_row windows l.initial.panes (flat_map (with_panes windows) (take l.row-index l.rows))
