-- What the rows of windows are, window by window.
use Rattle.std.specs.Prelude.{◌≡◌, ℕ, ◌*◌, nat_lt, List, length, map}
use Rattle.std.specs.List.{list_any, AllByRecursion}
use Rattle.std.specs.Ordering.{is_eq}
use Rattle.event_value.specs.declared.record.Stamped.{Stamped}
use Rattle.row_groups.specs.Distinct.{Rises}
use Rattle.window_grid.specs.Grid.{grid, grid_windows, hop_of}
use Rattle.window_grid.specs.Panes.{pane_order}
use Rattle.window_grid.specs.Snapshot.{snapshot, snapshot_windows}
use Rattle.window_grid.specs.Windows.{content, panes, row_at}
use Rattle.window_grid.specs.declared.grid.GridSpec.{GridSpec}
use Rattle.window_grid.specs.declared.pane.Pane.{Pane}
use Rattle.window_grid.specs.declared.snapshot.SnapshotSpec.{SnapshotSpec}

-- A grid has windows that rise by end and key, each ending at a multiple of the hop; its rows are
-- theirs; and for each multiple and each key there is a window exactly where the content isn't
-- empty.
pub record AreGridRows (spec : GridSpec) (rows : List Stamped) : Type 0 where
  pub rise : Rises pane_order (panes (grid_windows spec) rows)
  pub at_multiples : AllByRecursion (λ (p : Pane). (m : ℕ) × (p.end ≡ m * hop_of spec)) (panes (grid_windows spec) rows)
  pub of_windows : grid spec rows ≡ map (row_at (grid_windows spec) rows) (panes (grid_windows spec) rows)
  pub where_filled : (p : Pane) (m : ℕ) → p.end ≡ m * hop_of spec
      → list_any (λ q. is_eq (pane_order p q)) (panes (grid_windows spec) rows) ≡ nat_lt 0 (length (content (grid_windows spec) rows p))

-- A snapshot has windows that rise by time and key; its rows are theirs; and for each time and key
-- there is a window exactly where some row has them.
pub record AreSnapshotRows (spec : SnapshotSpec) (rows : List Stamped) : Type 0 where
  pub rise : Rises pane_order (panes (snapshot_windows spec) rows)
  pub of_windows : snapshot spec rows ≡ map (row_at (snapshot_windows spec) rows) (panes (snapshot_windows spec) rows)
  pub where_filled : (p : Pane)
      → list_any (λ q. is_eq (pane_order p q)) (panes (snapshot_windows spec) rows) ≡ nat_lt 0 (length (content (snapshot_windows spec) rows p))
