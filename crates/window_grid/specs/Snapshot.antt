-- The meaning of a snapshot: a window for each time, of the rows at that time.
use Rattle.std.specs.Prelude.{Bool, true, ◌==◌, List, [], ◌∷◌}
use Rattle.event_value.specs.declared.record.Stamped.{Stamped}
use Rattle.window_grid.specs.Windows.{Windows, windowed}
use Rattle.window_grid.specs.declared.snapshot.SnapshotSpec.{SnapshotSpec}

-- every specification fits
abbrev pub snapshot_fits : SnapshotSpec → Bool
snapshot_fits spec = true

-- the windows of a snapshot
abbrev pub snapshot_windows : SnapshotSpec → Windows
snapshot_windows spec = record {
  ends = λ t. t ∷ [];
  holds = λ e t. t == e;
  reach = 0;
  keys = spec.keys;
  aggregates = spec.aggs;
}

-- the rows of a snapshot
abbrev pub snapshot : SnapshotSpec → List Stamped → List Stamped
snapshot spec rows = windowed (snapshot_windows spec) rows
