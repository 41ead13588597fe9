-- What is looked at once every table is read: limits, names, and the order of moments.
use Rattle.std.specs.Prelude.{ℕ, ◌+◌, List, [], ◌∷◌, ◌++◌, length, map, fold, sum_by, codes}
use Rattle.std.specs.Prelude.{Bool, true, nat_le, nat_lt, if◌then◌else◌, Option, Some, None, Result, Ok, Err}
use Rattle.std.specs.List.{list_any}
use Rattle.std.specs.Str.{bytes_eq}
use Rattle.event_value.specs.declared.kind.Column.{Column}
use Rattle.input_book.specs.Limits.{max_streams, max_partitions, max_segments, max_columns}
use Rattle.input_book.specs.Limits.{max_references, max_snapshots}
use Rattle.input_book.specs.Refusals.{◌>>=◌, entry_key, read_inside}
use Rattle.input_book.specs.declared.input_err.InputErr.{InputErr}
use Rattle.input_book.specs.declared.input_err.InputErr.TheVariants.{TooMany, Twice, ThroughOrder, EffectiveOrder}
use Rattle.input_types.specs.declared.inputs.Inputs.{Inputs}
use Rattle.input_types.specs.declared.inputs.Partition.{Partition}
use Rattle.input_types.specs.declared.inputs.Reference.{Reference}
use Rattle.input_types.specs.declared.inputs.SegmentName.{SegmentName}
use Rattle.input_types.specs.declared.inputs.SnapshotName.{SnapshotName}
use Rattle.input_types.specs.declared.inputs.Stream.{Stream}

-- nothing, or a refusal
abbrev pub Check : Type 0
Check = Result (Unit {0}) InputErr

-- the entries of the list at a key, behind those that have passed: each is judged with all before it,
-- and the first that breaks the rule is refused
abbrev pub each : {A : Type 0} → (List A → A → Check) → List ℕ → List A → List A → Check
each check list passed [] = Ok tt
each check list passed (x ∷ xs) = do
  _ ← read_inside (entry_key list (length passed)) (check passed x)
  each check list (passed ++ x ∷ []) xs

-- at most so many entries of the list at a key
unfoldable pub count_check : ℕ → List ℕ → ℕ → Check
count_check most key count = if nat_le count most then Ok tt else Err (TooMany key)

abbrev pub partition_limits : Partition → Check
partition_limits partition = count_check max_segments (codes "segments") (length partition.segments)

abbrev pub partition_count : List Stream → ℕ
partition_count streams = sum_by (λ stream. length stream.partitions) streams

-- a stream with so many partitions before its own
abbrev pub stream_limits : ℕ → Stream → Check
stream_limits before stream = do
  _ ← count_check max_columns (codes "columns") (length stream.columns)
  _ ← count_check max_partitions (codes "partition") (before + length stream.partitions)
  each (λ _ partition. partition_limits partition) (codes "partition") [] stream.partitions

abbrev pub snapshot_count : List Reference → ℕ
snapshot_count references = sum_by (λ reference. length reference.snapshots) references

-- a reference with so many snapshots before its own
abbrev pub reference_limits : ℕ → Reference → Check
reference_limits before reference = do
  _ ← count_check max_columns (codes "columns") (length reference.columns)
  count_check max_snapshots (codes "snapshots") (before + length reference.snapshots)

-- no list of streams is longer than its limit; the partitions of all streams so far count together
unfoldable pub streams_limits : List Stream → Check
streams_limits streams = do
  _ ← count_check max_streams (codes "stream") (length streams)
  each (λ passed stream. stream_limits (partition_count passed) stream) (codes "stream") [] streams

-- and none of references, where the snapshots of all references so far count together
unfoldable pub references_limits : List Reference → Check
references_limits references = do
  _ ← count_check max_references (codes "reference") (length references)
  each (λ passed reference. reference_limits (snapshot_count passed) reference)
      (codes "reference") [] references

-- no list is longer than its limit
unfoldable pub limits_check : Inputs → Check
limits_check inputs = do
  _ ← streams_limits inputs.streams
  references_limits inputs.references

-- one of these names is this one
unfoldable pub is_among : List (List ℕ) → List ℕ → Bool
is_among names name = list_any (λ n. bytes_eq n name) names

-- a name that isn't among these
abbrev pub name_check : List (List ℕ) → List ℕ → Check
name_check names name = if is_among names name then Err (Twice name) else Ok tt

abbrev pub column_names : List Column → Column → Check
column_names passed column = name_check (map (λ c. c.name) passed) column.name

abbrev pub stream_names : List Stream → Stream → Check
stream_names passed stream = do
  _ ← name_check (map (λ s. s.name) passed) stream.name
  each column_names (codes "columns") [] stream.columns

unfoldable pub streams_names : List Stream → Check
streams_names streams = each stream_names (codes "stream") [] streams

-- a reference behind these streams and references
abbrev pub reference_names : List Stream → List Reference → Reference → Check
reference_names streams passed reference = do
  _ ← name_check (map (λ s. s.name) streams) reference.name
  _ ← name_check (map (λ r. r.name) passed) reference.name
  each column_names (codes "columns") [] reference.columns

unfoldable pub references_names : List Stream → List Reference → Check
references_names streams references =
    each (reference_names streams) (codes "reference") [] references

-- no source has the name of one before it, and no column that of one before it in its source
unfoldable pub names_check : Inputs → Check
names_check inputs = do
  _ ← streams_names inputs.streams
  references_names inputs.streams inputs.references

-- the `through` of the last of these segments; the first moment of all where there is none
abbrev pub last_through : List SegmentName → ℕ
last_through segments = fold (λ _ segment. segment.through) 0 segments

-- a segment behind one that reaches through this moment
abbrev pub through_check : ℕ → SegmentName → Check
through_check before segment =
    if nat_lt segment.through before then Err (ThroughOrder (codes "through")) else Ok tt

abbrev pub segment_order : List SegmentName → SegmentName → Check
segment_order passed segment = through_check (last_through passed) segment

abbrev pub partition_order : Partition → Check
partition_order partition = each segment_order (codes "segments") [] partition.segments

abbrev pub stream_order : Stream → Check
stream_order stream =
    each (λ _ partition. partition_order partition) (codes "partition") [] stream.partitions

-- no `through` is below that of the segment before it in its partition
unfoldable pub order_check : Inputs → Check
order_check inputs = each (λ _ stream. stream_order stream) (codes "stream") [] inputs.streams

-- from when on the last of these snapshots is in force, if there is one
abbrev pub last_effective : List SnapshotName → Option ℕ
last_effective snapshots = fold (λ _ snapshot. Some snapshot.effective) None snapshots

-- whether a moment is above another, if there is one
abbrev pub is_above : Option ℕ → ℕ → Bool
is_above None moment = true
is_above (Some before) moment = nat_lt before moment

-- a snapshot behind one that is in force from this moment on, if there is one
abbrev pub effective_check : Option ℕ → SnapshotName → Check
effective_check before snapshot =
    if is_above before snapshot.effective then Ok tt else Err (EffectiveOrder (codes "effective"))

abbrev pub snapshot_order : List SnapshotName → SnapshotName → Check
snapshot_order passed snapshot = effective_check (last_effective passed) snapshot

abbrev pub reference_order : Reference → Check
reference_order reference = each snapshot_order (codes "snapshots") [] reference.snapshots

-- each effective moment is above that of the snapshot before it in its reference
unfoldable pub effective_order : Inputs → Check
effective_order inputs =
    each (λ _ reference. reference_order reference) (codes "reference") [] inputs.references
