-- The rows of a grid and of a snapshot, window by window.
use Rattle.std.proofs.Common.{◌≡◌, ℕ, true, List, refl, sym, subst}
use Rattle.std.specs.Prelude.{◌*◌}
use Rattle.std.specs.List.{flat_map}
use Rattle.event_value.specs.declared.record.Stamped.{Stamped}
use Rattle.row_groups.proofs.DistinctLemmas.{Rises-distinct}
use Rattle.window_grid.specs.Grid.{grid_fits, grid_windows, hop_of, size_of}
use Rattle.window_grid.specs.GridLaws.{grid_ends-are, grid_ends-once, hop-above}
use Rattle.window_grid.specs.Laws.{AreGridRows, AreSnapshotRows}
use Rattle.window_grid.specs.Panes.{pane_order}
use Rattle.window_grid.specs.Snapshot.{snapshot_windows}
use Rattle.window_grid.specs.SnapshotLaws.{snapshot_windows-once}
use Rattle.window_grid.specs.WindowLaws.{pane_order-total}
use Rattle.window_grid.specs.Windows.{IsEndOnce, panes_of}
use Rattle.window_grid.specs.declared.grid.GridSpec.{GridSpec}
use Rattle.window_grid.specs.declared.snapshot.SnapshotSpec.{SnapshotSpec}
use Rattle.window_grid.proofs.ContentLemmas.{Each-panes, any_pane-content}

pub AreGridRows-all : (spec : GridSpec) (rows : List Stamped) → grid_fits spec ≡ true → AreGridRows spec rows
AreGridRows-all spec rows f = record {
  rise = Rises-distinct pane_order pane_order-total (flat_map (panes_of (grid_windows spec)) rows);
  at_multiples = Each-panes (λ e. (m : ℕ) × (e ≡ m * hop_of spec)) (grid_windows spec) (grid_ends-are (size_of spec) (hop_of spec)) rows;
  of_windows = refl;
  where_filled = λ p m e. any_pane-content (grid_windows spec) rows p (subst (IsEndOnce (grid_windows spec)) (sym e) (λ t. grid_ends-once (size_of spec) (hop_of spec) t m (hop-above spec f)));
}

pub AreSnapshotRows-all : (spec : SnapshotSpec) (rows : List Stamped) → AreSnapshotRows spec rows
AreSnapshotRows-all spec rows = record {
  rise = Rises-distinct pane_order pane_order-total (flat_map (panes_of (snapshot_windows spec)) rows);
  of_windows = refl;
  where_filled = λ p. any_pane-content (snapshot_windows spec) rows p (λ t. snapshot_windows-once p.end t);
}
