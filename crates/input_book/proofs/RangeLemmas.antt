-- What each table gives keeps its ranges.
use Rattle.std.proofs.Common.{◌≡◌, ℕ, ◌<◌, ◌≤◌, List, [], ◌∷◌, length, Bool, true, false, if◌then◌else◌, Option, Some, None, option_map, Ok, refl, subst, nat_lt, arith, inl, inr, ℤ, pos, negsuc, ◌+ℤ◌, ◌*ℤ◌, codes}
use Rattle.std.proofs.lemmas.Int.{ints}
use Rattle.std.proofs.lemmas.List.Elements.{All-nil}
use Rattle.std.proofs.lemmas.Option.{option_and_then_some}
use Rattle.std.specs.Prelude.{All, slice_index}
use Rattle.std.specs.Str.{bytes_eq}
use Rattle.toml.specs.Data.{Members, as_str, as_integer, as_bool}
use Rattle.tick_time.specs.Moment.{limit_ticks, moment_below_limit}
use Rattle.tick_time.specs.MomentReading.{moment_of, date_at_front, time_of}
use Rattle.tick_time.specs.Calendar.{date_number}
use Rattle.tick_time.specs.Ticks.{day_ticks}
use Rattle.event_value.specs.declared.kind.Column.{Column}
use Rattle.event_value.specs.declared.kind.Format.{Format}
use Rattle.event_value.specs.declared.kind.Format.TheVariants.{Json, Csv, Avro, JsonExact}
use Rattle.event_value.specs.declared.policy.Policy.{Policy}
use Rattle.input_book.specs.Laws.{IsCountTo, IsSecondsTo, IsFormat, IsColumn, IsSegment, IsSnapshot, IsPolicy}
use Rattle.input_book.specs.Limits.{max_name, max_file, max_path, max_late, max_disorder, max_skew}
use Rattle.input_book.specs.Ranges.{any, sized, some_items, items_to, item_count, seconds_to, action_of, kind_of, delimiters, is_delimiter, format_of, delimited}
use Rattle.input_book.specs.Readers.{value_of, text_of, table_of, list_of, needed, optional, only}
use Rattle.input_book.specs.Tables.{default_policy, seconds_at, policy_keys, policy_of, path_of, column_of, source_of, segment_of, partition_of, stream_keys, stream_of, snapshot_of, reference_keys, reference_of, root_of}
use Rattle.input_types.specs.declared.inputs.Inputs.{Inputs}
use Rattle.input_types.specs.declared.inputs.Partition.{Partition}
use Rattle.input_types.specs.declared.inputs.Reference.{Reference}
use Rattle.input_types.specs.declared.inputs.SegmentName.{SegmentName}
use Rattle.input_types.specs.declared.inputs.SnapshotName.{SnapshotName}
use Rattle.input_types.specs.declared.inputs.Stream.{Stream}
use Rattle.input_book.specs.declared.source.Source.{Source}
use Rattle.input_book.proofs.ReadingLemmas.{bind-then, if_some, lt-true, optional-ok, needed-ok, needed_value-ok, value_of-ok, list_of-ok, tables-ok, table_of-ok, parts-ok, sized-ok, items_to-ok, seconds_to-ok}

moment_below_limit-some : (z : ℤ) (m : ℕ) → moment_below_limit z ≡ Some m → m < limit_ticks
moment_below_limit-some (pos n) m h =
    let (below, same) = if_some (nat_lt n limit_ticks) n m h in
    let under : n < limit_ticks = lt-true n limit_ticks below in
    omega arith
moment_below_limit-some (negsuc n) m h = absurd cc

moment_of-some : (text : List ℕ) (m : ℕ) → moment_of text ≡ Some m → m < limit_ticks
unfolding moment_of
moment_of-some text m h =
    option_and_then_some _ (date_at_front text) m h (λ date _ h1.
    option_and_then_some _ (date_number date.0) m h1 (λ number _ h2.
    option_and_then_some _ (time_of date.1) m h2 (λ time _ h3.
    moment_below_limit-some (number *ℤ pos day_ticks +ℤ time) m h3)))

pub segment-keeps : (ms : Members) (s : SegmentName) → segment_of ms ≡ Ok s → IsSegment s
unfolding segment_of
segment-keeps ms s h =
    bind-then (only (codes "file" ∷ codes "through" ∷ []) ms) _ s h (λ _ _ h1.
    bind-then (needed (codes "file") (text_of (sized max_file)) ms) _ s h1 (λ file f h2.
    bind-then (needed (codes "through") (text_of moment_of) ms) _ s h2 (λ through t h3.
    let (name, sized) = needed_value-ok (codes "file") as_str (sized max_file) ms file f in
    let (text, moment) = needed_value-ok (codes "through") as_str moment_of ms through t in
    let whole : (record { file = file; through = through }) ≡ s = cc in
    subst IsSegment whole (record { file = sized-ok max_file name file sized; through = moment_of-some text through moment }))))

-- the segments of a partition, by their tables
pub record KeepsPartition (partition : Partition) : Type 0 where
  pub segments : All IsSegment partition.segments

pub partition-keeps : (ms : Members) (p : Partition) → partition_of ms ≡ Ok p → KeepsPartition p
unfolding partition_of
partition-keeps ms p h =
    bind-then (only (codes "ended" ∷ codes "segments" ∷ []) ms) _ p h (λ _ _ h1.
    bind-then (optional (codes "ended") false (value_of as_bool any) ms) _ p h1 (λ ended _ h2.
    bind-then (optional (codes "segments") [] (list_of any (table_of segment_of)) ms) _ p h2 (λ segments given h3.
    let whole : (record { ended = ended; segments = segments }) ≡ p = cc in
    subst KeepsPartition whole (record { segments = kept segments given })))) where
      kept : (segments : List SegmentName) → optional (codes "segments") [] (list_of any (table_of segment_of)) ms ≡ Ok segments → All IsSegment segments
      kept segments given =
          elim (optional-ok (codes "segments") [] (list_of any (table_of segment_of)) ms segments given) [
            | inl none ↦ subst (All IsSegment) none (All-nil IsSegment)
            | inr found ↦ tables-ok IsSegment segment_of segment-keeps segments (list_of-ok any (table_of segment_of) (codes "segments") found.0 segments found.1).0
          ]

path-count : (name : List ℕ) (ms : Members) (path : List (List ℕ)) → optional (codes "path") (name ∷ []) path_of ms ≡ Ok path → IsCountTo max_path (length path)
path-count name ms path given =
    elim (optional-ok (codes "path") (name ∷ []) path_of ms path given) [
      | inl alone ↦ let P : List (List ℕ) → Type 0 = λ v. IsCountTo max_path (length v) in subst P alone (omega arith, omega arith)
      | inr found ↦
          let (all, (ds, es, within, count)) = list_of-ok (items_to max_path) (text_of any) (codes "path") found.0 path found.1 in
          let counted : IsCountTo max_path (item_count es) = items_to-ok max_path ds es within in
          (omega arith, omega arith)
    ]

pub column-keeps : (ms : Members) (c : Column) → column_of ms ≡ Ok c → IsColumn c
unfolding column_of
column-keeps ms c h =
    bind-then (only (codes "name" ∷ codes "kind" ∷ codes "path" ∷ []) ms) _ c h (λ _ _ h1.
    bind-then (needed (codes "name") (text_of (sized max_name)) ms) _ c h1 (λ name n h2.
    bind-then (needed (codes "kind") (text_of kind_of) ms) _ c h2 (λ kind _ h3.
    bind-then (optional (codes "path") (name ∷ []) path_of ms) _ c h3 (λ path given h4.
    let (text, sized) = needed_value-ok (codes "name") as_str (sized max_name) ms name n in
    let whole : (record { name = name; kind = kind; path = path }) ≡ c = cc in
    subst IsColumn whole (record { name = sized-ok max_name text name sized; path = path-count name ms path given })))))

format-by : (json csv : Bool) (f : Format) → (if json then Some Json else (if csv then Some (Csv (slice_index delimiters 0)) else None)) ≡ Some f → IsFormat f
format-by true csv f h = let same : Json ≡ f = cc in subst IsFormat same tt
format-by false true f h = let same : Csv (slice_index delimiters 0) ≡ f = cc in subst IsFormat same refl
format-by false false f h = absurd cc

format_of-is : (word : List ℕ) (f : Format) → format_of word ≡ Some f → IsFormat f
format_of-is word f h = format-by (bytes_eq word (codes "json")) (bytes_eq word (codes "csv")) f h

csv-with : (b : Bool) (byte : ℕ) (f : Format) → is_delimiter byte ≡ b → option_map (λ d. Csv d) (if b then Some byte else None) ≡ Some f → IsFormat f
csv-with true byte f is h = let same : Csv byte ≡ f = cc in subst IsFormat same is
csv-with false byte f is h = absurd cc

delimited-is : (plain : Format) (text : List ℕ) (f : Format) → delimited plain text ≡ Some f → IsFormat f
delimited-is Json text f h = absurd cc
delimited-is Avro text f h = absurd cc
delimited-is JsonExact text f h = absurd cc
delimited-is (Csv d) [] f h = absurd cc
delimited-is (Csv d) (byte ∷ []) f h = csv-with (is_delimiter byte) byte f refl h
delimited-is (Csv d) (a ∷ b ∷ cs) f h = absurd cc

format-kept : (plain : Format) (ms : Members) (f : Format) → IsFormat plain → optional (codes "delimiter") plain (text_of (delimited plain)) ms ≡ Ok f → IsFormat f
format-kept plain ms f is given =
    elim (optional-ok (codes "delimiter") plain (text_of (delimited plain)) ms f given) [
      | inl same ↦ subst IsFormat same is
      | inr found ↦
          let (text, within) = value_of-ok as_str (delimited plain) (codes "delimiter") found.0 f found.1 in
          delimited-is plain text f within
    ]

-- what streams and references have both, by their tables
pub record KeepsSource (source : Source) : Type 0 where
  pub name : IsCountTo max_name (length source.name)
  pub format : IsFormat source.format
  pub columns : All IsColumn source.columns
  pub column_count : 1 ≤ length source.columns

pub source-keeps : (ms : Members) (s : Source) → source_of ms ≡ Ok s → KeepsSource s
unfolding source_of
source-keeps ms s h =
    bind-then (needed (codes "name") (text_of (sized max_name)) ms) _ s h (λ name n h1.
    bind-then (needed (codes "format") (text_of format_of) ms) _ s h1 (λ plain p h2.
    bind-then (optional (codes "delimiter") plain (text_of (delimited plain)) ms) _ s h2 (λ format f h3.
    bind-then (needed (codes "columns") (list_of some_items (table_of column_of)) ms) _ s h3 (λ columns given h4.
    let (text, sized) = needed_value-ok (codes "name") as_str (sized max_name) ms name n in
    let (word, named) = needed_value-ok (codes "format") as_str format_of ms plain p in
    let (all, some) = parts-ok IsColumn column_of column-keeps (codes "columns") ms columns given in
    let whole : (record { name = name; format = format; columns = columns }) ≡ s = cc in
    subst KeepsSource whole (record { name = sized-ok max_name text name sized; format = format-kept plain ms format (format_of-is word plain named) f; columns = all; column_count = some })))))

-- a stream, by its table
pub record KeepsStream (stream : Stream) : Type 0 where
  pub name : IsCountTo max_name (length stream.name)
  pub format : IsFormat stream.format
  pub columns : All IsColumn stream.columns
  pub column_count : 1 ≤ length stream.columns
  pub partitions : All KeepsPartition stream.partitions
  pub partition_count : 1 ≤ length stream.partitions

pub stream-keeps : (ms : Members) (s : Stream) → stream_of ms ≡ Ok s → KeepsStream s
unfolding stream_of
stream-keeps ms s h =
    bind-then (only stream_keys ms) _ s h (λ _ _ h1.
    bind-then (source_of ms) _ s h1 (λ source given h2.
    bind-then (needed (codes "partition") (list_of some_items (table_of partition_of)) ms) _ s h2 (λ partitions listed h3.
    let of_source : KeepsSource source = source-keeps ms source given in
    let (all, some) = parts-ok KeepsPartition partition_of partition-keeps (codes "partition") ms partitions listed in
    let whole : (record { name = source.name; format = source.format; columns = source.columns; partitions = partitions }) ≡ s = cc in
    subst KeepsStream whole (record { name = of_source.name; format = of_source.format; columns = of_source.columns; column_count = of_source.column_count; partitions = all; partition_count = some }))))

pub snapshot-keeps : (ms : Members) (s : SnapshotName) → snapshot_of ms ≡ Ok s → IsSnapshot s
unfolding snapshot_of
snapshot-keeps ms s h =
    bind-then (only (codes "file" ∷ codes "effective" ∷ []) ms) _ s h (λ _ _ h1.
    bind-then (needed (codes "file") (text_of (sized max_file)) ms) _ s h1 (λ file f h2.
    bind-then (needed (codes "effective") (text_of moment_of) ms) _ s h2 (λ effective t h3.
    let (name, sized) = needed_value-ok (codes "file") as_str (sized max_file) ms file f in
    let (text, moment) = needed_value-ok (codes "effective") as_str moment_of ms effective t in
    let whole : (record { file = file; effective = effective }) ≡ s = cc in
    subst IsSnapshot whole (record { file = sized-ok max_file name file sized; effective = moment_of-some text effective moment }))))

-- a reference, by its table
pub record KeepsReference (reference : Reference) : Type 0 where
  pub name : IsCountTo max_name (length reference.name)
  pub format : IsFormat reference.format
  pub columns : All IsColumn reference.columns
  pub column_count : 1 ≤ length reference.columns
  pub snapshots : All IsSnapshot reference.snapshots

pub reference-keeps : (ms : Members) (r : Reference) → reference_of ms ≡ Ok r → KeepsReference r
unfolding reference_of
reference-keeps ms r h =
    bind-then (only reference_keys ms) _ r h (λ _ _ h1.
    bind-then (source_of ms) _ r h1 (λ source given h2.
    bind-then (needed (codes "snapshots") (list_of any (table_of snapshot_of)) ms) _ r h2 (λ snapshots listed h3.
    let of_source : KeepsSource source = source-keeps ms source given in
    let (d, read) = needed-ok (codes "snapshots") (list_of any (table_of snapshot_of)) ms snapshots listed in
    let all : All IsSnapshot snapshots = tables-ok IsSnapshot snapshot_of snapshot-keeps snapshots (list_of-ok any (table_of snapshot_of) (codes "snapshots") d snapshots read).0 in
    let whole : (record { name = source.name; format = source.format; columns = source.columns; snapshots = snapshots }) ≡ r = cc in
    subst KeepsReference whole (record { name = of_source.name; format = of_source.format; columns = of_source.columns; column_count = of_source.column_count; snapshots = all }))))

references-kept : (ms : Members) (references : List Reference) → optional (codes "reference") [] (list_of any (table_of reference_of)) ms ≡ Ok references → All KeepsReference references
references-kept ms references given =
    elim (optional-ok (codes "reference") [] (list_of any (table_of reference_of)) ms references given) [
      | inl none ↦ subst (All KeepsReference) none (All-nil KeepsReference)
      | inr found ↦ tables-ok KeepsReference reference_of reference-keeps references (list_of-ok any (table_of reference_of) (codes "reference") found.0 references found.1).0
    ]

seconds-keep : (key : List ℕ) (default : ℤ) (most : ℕ) (ms : Members) (ticks : ℤ) → IsSecondsTo most default → seconds_at key default most ms ≡ Ok ticks → IsSecondsTo most ticks
seconds-keep key default most ms ticks first h =
    elim (optional-ok key default (value_of as_integer (seconds_to most)) ms ticks h) [
      | inl same ↦ subst (IsSecondsTo most) same first
      | inr found ↦
          let (z, within) = value_of-ok as_integer (seconds_to most) key found.0 ticks found.1 in
          seconds_to-ok most z ticks within
    ]

default-keeps : IsPolicy default_policy
default-keeps = record {
  late = (omega (arith, ints), omega (arith, ints));
  disorder = (omega (arith, ints), omega (arith, ints));
  skew = (omega (arith, ints), omega (arith, ints));
}

pub policy-keeps : (ms : Members) (p : Policy) → policy_of ms ≡ Ok p → IsPolicy p
unfolding policy_of
policy-keeps ms p h =
    bind-then (only policy_keys ms) _ p h (λ _ _ h1.
    bind-then (seconds_at (codes "late_seconds") default_policy.late max_late ms) _ p h1 (λ late a h2.
    bind-then (seconds_at (codes "disorder_seconds") default_policy.disorder max_disorder ms) _ p h2 (λ disorder b h3.
    bind-then (optional (codes "action") default_policy.adjust (text_of action_of) ms) _ p h3 (λ adjust _ h4.
    bind-then (seconds_at (codes "skew_seconds") default_policy.skew max_skew ms) _ p h4 (λ skew c h5.
    let whole : (record { late = late; disorder = disorder; adjust = adjust; skew = skew }) ≡ p = cc in
    subst IsPolicy whole (record {
      late = seconds-keep (codes "late_seconds") default_policy.late max_late ms late default-keeps.late a;
      disorder = seconds-keep (codes "disorder_seconds") default_policy.disorder max_disorder ms disorder default-keeps.disorder b;
      skew = seconds-keep (codes "skew_seconds") default_policy.skew max_skew ms skew default-keeps.skew c;
    }))))))

-- the inputs, by their tables
pub record KeepsInputs (inputs : Inputs) : Type 0 where
  pub streams : All KeepsStream inputs.streams
  pub stream_count : 1 ≤ length inputs.streams
  pub references : All KeepsReference inputs.references
  pub policy : IsPolicy inputs.policy

policy-kept : (ms : Members) (p : Policy) → optional (codes "policy") default_policy (table_of policy_of) ms ≡ Ok p → IsPolicy p
policy-kept ms p h =
    elim (optional-ok (codes "policy") default_policy (table_of policy_of) ms p h) [
      | inl same ↦ subst IsPolicy same default-keeps
      | inr found ↦ let (inner, given) = table_of-ok policy_of (codes "policy") found.0 p found.1 in policy-keeps inner p given
    ]

pub root-keeps : (ms : Members) (inputs : Inputs) → root_of ms ≡ Ok inputs → KeepsInputs inputs
unfolding root_of
root-keeps ms inputs h =
    bind-then (only (codes "policy" ∷ codes "stream" ∷ codes "reference" ∷ []) ms) _ inputs h (λ _ _ h1.
    bind-then (optional (codes "policy") default_policy (table_of policy_of) ms) _ inputs h1 (λ policy p h2.
    bind-then (needed (codes "stream") (list_of some_items (table_of stream_of)) ms) _ inputs h2 (λ streams given h3.
    bind-then (optional (codes "reference") [] (list_of any (table_of reference_of)) ms) _ inputs h3 (λ references r h4.
    let (all, some) = parts-ok KeepsStream stream_of stream-keeps (codes "stream") ms streams given in
    let whole : (record { streams = streams; references = references; policy = policy }) ≡ inputs = cc in
    subst KeepsInputs whole (record { streams = all; stream_count = some; references = references-kept ms references r; policy = policy-kept ms policy p })))))
