-- The snapshots of the references that a plan names, with their rows as the files hold them
-- (docs/INPUTS, "Records").
use Rattle.std.specs.Prelude.{ℕ, List, [], ◌∷◌, map, slice_get, false, Option, Some, None}
use Rattle.std.specs.List.{flat_map}
use Rattle.arrival_text.specs.Segments.{max_segment}
use Rattle.event_value.specs.declared.kind.Column.{Column}
use Rattle.event_value.specs.declared.kind.Format.{Format}
use Rattle.event_value.specs.declared.record.Item.{Item}
use Rattle.event_value.specs.declared.record.Item.TheVariants.{Good, Bad}
use Rattle.event_value.specs.declared.record.Stamped.{Stamped}
use Rattle.input_types.specs.declared.inputs.Reference.{Reference}
use Rattle.input_types.specs.declared.inputs.SnapshotName.{SnapshotName}
use Rattle.outside.specs.KnownFiles.{KnownFiles, file_of}
use Rattle.outside.specs.Segment.{segment_of}
use Rattle.outside.specs.declared.segment.Segment.{Segment}
use Rattle.outside.specs.declared.segment.Segment.TheVariants.{Bytes, TooLong}
use Rattle.stream_joins.specs.Snapshots.{Snapshots}
use Rattle.log_reading.specs.Log.{items_in}

-- the row of a record, at moment 0; a bad record has none
abbrev pub rows_of_item : Item → List Stamped
rows_of_item (Good _ values) = record { time = 0; values = values } ∷ []
rows_of_item (Bad _) = []

-- the rows of the records of a file, in order
abbrev pub rows_of_items : List Item → List Stamped
rows_of_items items = flat_map rows_of_item items

-- the rows of a file up to the limit of a segment; a longer file has none
abbrev pub rows_of_segment : Format → List Column → Segment → List Stamped
rows_of_segment format columns (Bytes bytes) = rows_of_items (items_in format columns false bytes)
rows_of_segment format columns TooLong = []

-- the rows of a file of a reference
abbrev pub rows_of_file : KnownFiles → Reference → List ℕ → List Stamped
rows_of_file files reference name =
    rows_of_segment reference.format reference.columns (segment_of max_segment (file_of files name))

-- from when on each of some snapshots is in force
abbrev pub effective_moments : List SnapshotName → List ℕ
effective_moments snapshots = map (λ snapshot. snapshot.effective) snapshots

-- the snapshots of a reference, as the files hold them
abbrev pub snapshots_in : KnownFiles → Reference → Snapshots
snapshots_in files reference = record {
  effective = effective_moments reference.snapshots;
  rows = map (λ snapshot. rows_of_file files reference snapshot.file) reference.snapshots;
}

abbrev pub no_snapshots : Snapshots
no_snapshots = record { effective = []; rows = [] }

-- those of the reference that is found, and none where none is
abbrev pub snapshots_found : KnownFiles → Option Reference → Snapshots
snapshots_found files None = no_snapshots
snapshots_found files (Some reference) = snapshots_in files reference

-- those of the references of these numbers, in order
abbrev pub references_in : KnownFiles → List Reference → List ℕ → List Snapshots
references_in files references numbers =
    map (λ number. snapshots_found files (slice_get references number)) numbers

-- the names of the files of some snapshots, in order
abbrev pub files_of_snapshots : List SnapshotName → List (List ℕ)
files_of_snapshots snapshots = map (λ snapshot. snapshot.file) snapshots

-- the names of the files of the reference that is found
abbrev pub reference_files : Option Reference → List (List ℕ)
reference_files None = []
reference_files (Some reference) = files_of_snapshots reference.snapshots

-- the names of the files of the references of these numbers, in order
abbrev pub references_files : List Reference → List ℕ → List (List ℕ)
references_files references numbers =
    flat_map (λ number. reference_files (slice_get references number)) numbers
