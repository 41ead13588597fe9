-- The tables of an inputs document, a line a key, in the order in which the keys are read.
use Rattle.std.specs.Prelude.{ℕ, ℤ, List, [], ◌∷◌, codes, true, false, Result, Ok}
use Rattle.toml.specs.Data.{Members, as_integer, as_bool}
use Rattle.tick_time.specs.MomentReading.{moment_of}
use Rattle.event_value.specs.declared.kind.Column.{Column}
use Rattle.event_value.specs.declared.policy.Policy.{Policy}
use Rattle.input_book.specs.Limits.{max_name, max_file, max_path, max_late, max_disorder, max_skew}
use Rattle.input_book.specs.Limits.{default_late, default_disorder, default_skew}
use Rattle.input_book.specs.Ranges.{any, sized, some_items, items_to, ticks_of, seconds_to}
use Rattle.input_book.specs.Ranges.{action_of, kind_of, format_of, delimited}
use Rattle.input_book.specs.Readers.{Reader, value_of, text_of, table_of, list_of, needed, optional, only}
use Rattle.input_book.specs.Refusals.{◌>>=◌}
use Rattle.input_book.specs.declared.input_err.InputErr.{InputErr}
use Rattle.input_types.specs.declared.inputs.Inputs.{Inputs}
use Rattle.input_types.specs.declared.inputs.Partition.{Partition}
use Rattle.input_types.specs.declared.inputs.Reference.{Reference}
use Rattle.input_types.specs.declared.inputs.SegmentName.{SegmentName}
use Rattle.input_types.specs.declared.inputs.SnapshotName.{SnapshotName}
use Rattle.input_types.specs.declared.inputs.Stream.{Stream}
use Rattle.input_book.specs.declared.source.Source.{Source}

-- the policies where the document has no such table
abbrev pub default_policy : Policy
default_policy = record {
  late = ticks_of default_late;
  disorder = ticks_of default_disorder;
  adjust = true;
  skew = ticks_of default_skew;
}

-- the ticks of a policy, from 0 to so many seconds
abbrev pub seconds_at : List ℕ → ℤ → ℕ → Members → Result ℤ InputErr
seconds_at key default most ms = optional key default (value_of as_integer (seconds_to most)) ms

-- the keys of the policies
abbrev pub policy_keys : List (List ℕ)
policy_keys =
    codes "late_seconds" ∷ codes "disorder_seconds" ∷ codes "action" ∷ codes "skew_seconds" ∷ []

-- the policies
unfoldable pub policy_of : Members → Result Policy InputErr
policy_of ms = do
  _ ← only policy_keys ms
  late ← seconds_at (codes "late_seconds") default_policy.late max_late ms
  disorder ← seconds_at (codes "disorder_seconds") default_policy.disorder max_disorder ms
  adjust ← optional (codes "action") default_policy.adjust (text_of action_of) ms
  skew ← seconds_at (codes "skew_seconds") default_policy.skew max_skew ms
  Ok (record { late = late; disorder = disorder; adjust = adjust; skew = skew })

-- a path of field names
abbrev pub path_of : Reader (List (List ℕ))
path_of = list_of (items_to max_path) (text_of any)

-- a column, whose path is its name alone where the document says none
unfoldable pub column_of : Members → Result Column InputErr
column_of ms = do
  _ ← only (codes "name" ∷ codes "kind" ∷ codes "path" ∷ []) ms
  name ← needed (codes "name") (text_of (sized max_name)) ms
  kind ← needed (codes "kind") (text_of kind_of) ms
  path ← optional (codes "path") (name ∷ []) path_of ms
  Ok (record { name = name; kind = kind; path = path })

-- what streams and references have both
unfoldable pub source_of : Members → Result Source InputErr
source_of ms = do
  name ← needed (codes "name") (text_of (sized max_name)) ms
  plain ← needed (codes "format") (text_of format_of) ms
  format ← optional (codes "delimiter") plain (text_of (delimited plain)) ms
  columns ← needed (codes "columns") (list_of some_items (table_of column_of)) ms
  Ok (record { name = name; format = format; columns = columns })

-- a segment
unfoldable pub segment_of : Members → Result SegmentName InputErr
segment_of ms = do
  _ ← only (codes "file" ∷ codes "through" ∷ []) ms
  file ← needed (codes "file") (text_of (sized max_file)) ms
  through ← needed (codes "through") (text_of moment_of) ms
  Ok (record { file = file; through = through })

-- a partition
unfoldable pub partition_of : Members → Result Partition InputErr
partition_of ms = do
  _ ← only (codes "ended" ∷ codes "segments" ∷ []) ms
  ended ← optional (codes "ended") false (value_of as_bool any) ms
  segments ← optional (codes "segments") [] (list_of any (table_of segment_of)) ms
  Ok (record { ended = ended; segments = segments })

-- the keys of a stream
abbrev pub stream_keys : List (List ℕ)
stream_keys =
    codes "name" ∷ codes "format" ∷ codes "delimiter" ∷ codes "columns" ∷ codes "partition" ∷ []

-- a stream
unfoldable pub stream_of : Members → Result Stream InputErr
stream_of ms = do
  _ ← only stream_keys ms
  source ← source_of ms
  partitions ← needed (codes "partition") (list_of some_items (table_of partition_of)) ms
  Ok (record {
    name = source.name;
    format = source.format;
    columns = source.columns;
    partitions = partitions;
  })

-- a snapshot
unfoldable pub snapshot_of : Members → Result SnapshotName InputErr
snapshot_of ms = do
  _ ← only (codes "file" ∷ codes "effective" ∷ []) ms
  file ← needed (codes "file") (text_of (sized max_file)) ms
  effective ← needed (codes "effective") (text_of moment_of) ms
  Ok (record { file = file; effective = effective })

-- the keys of a reference
abbrev pub reference_keys : List (List ℕ)
reference_keys =
    codes "name" ∷ codes "format" ∷ codes "delimiter" ∷ codes "columns" ∷ codes "snapshots" ∷ []

-- a reference
unfoldable pub reference_of : Members → Result Reference InputErr
reference_of ms = do
  _ ← only reference_keys ms
  source ← source_of ms
  snapshots ← needed (codes "snapshots") (list_of any (table_of snapshot_of)) ms
  Ok (record {
    name = source.name;
    format = source.format;
    columns = source.columns;
    snapshots = snapshots;
  })

-- the root table
unfoldable pub root_of : Members → Result Inputs InputErr
root_of ms = do
  _ ← only (codes "policy" ∷ codes "stream" ∷ codes "reference" ∷ []) ms
  policy ← optional (codes "policy") default_policy (table_of policy_of) ms
  streams ← needed (codes "stream") (list_of some_items (table_of stream_of)) ms
  references ← optional (codes "reference") [] (list_of any (table_of reference_of)) ms
  Ok (record { streams = streams; references = references; policy = policy })
