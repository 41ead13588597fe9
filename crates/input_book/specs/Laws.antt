-- What holds of the inputs of every document that is accepted.
use Rattle.std.specs.Prelude.{◌≡◌, ℕ, ◌<◌, ◌≤◌, ◌≢◌, ℤ, pos, ◌≤ℤ◌, true, length, All, AllPairs}
use Rattle.std.specs.List.Sorted.{IsNonDecreasingBy}
use Rattle.tick_time.specs.Moment.{limit_ticks}
use Rattle.event_value.specs.declared.kind.Column.{Column}
use Rattle.event_value.specs.declared.kind.Format.{Format}
use Rattle.event_value.specs.declared.kind.Format.TheVariants.{Json, Csv, Avro, JsonExact}
use Rattle.event_value.specs.declared.policy.Policy.{Policy}
use Rattle.input_book.specs.Checks.{partition_count, snapshot_count}
use Rattle.input_book.specs.Limits.{max_streams, max_partitions, max_segments, max_columns}
use Rattle.input_book.specs.Limits.{max_references, max_snapshots}
use Rattle.input_book.specs.Limits.{max_name, max_file, max_path, max_late, max_disorder, max_skew}
use Rattle.input_book.specs.Ranges.{is_delimiter, ticks_of}
use Rattle.input_types.specs.declared.inputs.Inputs.{Inputs}
use Rattle.input_types.specs.declared.inputs.Partition.{Partition}
use Rattle.input_types.specs.declared.inputs.Reference.{Reference}
use Rattle.input_types.specs.declared.inputs.SegmentName.{SegmentName}
use Rattle.input_types.specs.declared.inputs.SnapshotName.{SnapshotName}
use Rattle.input_types.specs.declared.inputs.Stream.{Stream}

-- a number from 1 to so many
abbrev pub IsCountTo : ℕ → ℕ → Type 0
IsCountTo most n = (1 ≤ n) × (n ≤ most)

-- the ticks of 0 to so many seconds
abbrev pub IsSecondsTo : ℕ → ℤ → Type 0
IsSecondsTo most ticks = (pos 0 ≤ℤ ticks) × (ticks ≤ℤ ticks_of most)

-- JSON, or CSV with one of the delimiters
abbrev pub IsFormat : Format → Type 0
IsFormat Json = Unit {0}
IsFormat (Csv delimiter) = is_delimiter delimiter ≡ true
IsFormat Avro = ⊥
IsFormat JsonExact = ⊥

pub record IsColumn (column : Column) : Type 0 where
  pub name : IsCountTo max_name (length column.name)
  pub path : IsCountTo max_path (length column.path)

pub record IsSegment (segment : SegmentName) : Type 0 where
  pub file : IsCountTo max_file (length segment.file)
  pub through : segment.through < limit_ticks

-- the segments of a partition never fall in time
pub record IsPartition (partition : Partition) : Type 0 where
  pub count : length partition.segments ≤ max_segments
  pub segments : All IsSegment partition.segments
  pub order : IsNonDecreasingBy (λ segment. segment.through) partition.segments

-- no two columns of a stream have one name
pub record IsStream (stream : Stream) : Type 0 where
  pub name : IsCountTo max_name (length stream.name)
  pub format : IsFormat stream.format
  pub column_count : IsCountTo max_columns (length stream.columns)
  pub columns : All IsColumn stream.columns
  pub column_names : AllPairs (λ a b. a.name ≢ b.name) stream.columns
  pub partition_count : 1 ≤ length stream.partitions
  pub partitions : All IsPartition stream.partitions

pub record IsSnapshot (snapshot : SnapshotName) : Type 0 where
  pub file : IsCountTo max_file (length snapshot.file)
  pub effective : snapshot.effective < limit_ticks

-- no two columns of a reference have one name, and its snapshots rise in time
pub record IsReference (reference : Reference) : Type 0 where
  pub name : IsCountTo max_name (length reference.name)
  pub format : IsFormat reference.format
  pub column_count : IsCountTo max_columns (length reference.columns)
  pub columns : All IsColumn reference.columns
  pub column_names : AllPairs (λ a b. a.name ≢ b.name) reference.columns
  pub snapshots : All IsSnapshot reference.snapshots
  pub order : AllPairs (λ a b. a.effective < b.effective) reference.snapshots

pub record IsPolicy (policy : Policy) : Type 0 where
  pub late : IsSecondsTo max_late policy.late
  pub disorder : IsSecondsTo max_disorder policy.disorder
  pub skew : IsSecondsTo max_skew policy.skew

-- no two sources have one name
pub record IsWellFormed (inputs : Inputs) : Type 0 where
  pub stream_count : IsCountTo max_streams (length inputs.streams)
  pub streams : All IsStream inputs.streams
  pub stream_names : AllPairs (λ a b. a.name ≢ b.name) inputs.streams
  pub partition_count : partition_count inputs.streams ≤ max_partitions
  pub reference_count : length inputs.references ≤ max_references
  pub references : All IsReference inputs.references
  pub reference_names : AllPairs (λ a b. a.name ≢ b.name) inputs.references
  pub source_names : All (λ r. All (λ s. s.name ≢ r.name) inputs.streams) inputs.references
  pub snapshot_count : snapshot_count inputs.references ≤ max_snapshots
  pub policy : IsPolicy inputs.policy
