-- Well-formed inputs before an extension and behind it.
use Rattle.std.proofs.Common.{◌≡◌, ◌∙◌, ℕ, ◌<◌, ◌≤◌, ◌≢◌, List, All, arith, get_or, length, subst, sym}
use Rattle.std.proofs.lemmas.List.Elements.{AllZip-get_or}
use Rattle.std.proofs.lemmas.List.Prefix.{front_fits}
use Rattle.std.specs.List.{AllZip}
use Rattle.std.specs.Prelude.{AllPairs}
use Rattle.event_value.specs.declared.kind.Column.{Column}
use Rattle.event_value.specs.declared.kind.Format.{Format}
use Rattle.extension_laws.specs.Parts.{HasSoundPartitions, HasSoundParts, HasSoundSnapshots}
use Rattle.input_book.specs.Checks.{partition_count, snapshot_count}
use Rattle.input_book.specs.Laws.{IsColumn, IsCountTo, IsFormat, IsPartition, IsPolicy, IsReference, IsSegment, IsSnapshot, IsStream, IsWellFormed}
use Rattle.input_book.specs.Limits.{max_columns, max_name, max_partitions, max_references, max_segments, max_snapshots, max_streams}
use Rattle.input_extension.specs.Extension.{IsExtension, IsPartitionKept, IsReferenceExtension, IsStreamExtension}
use Rattle.input_types.specs.declared.inputs.Inputs.{Inputs}
use Rattle.input_types.specs.declared.inputs.Partition.{Partition}
use Rattle.input_types.specs.declared.inputs.Reference.{Reference}
use Rattle.input_types.specs.declared.inputs.Stream.{Stream}
use Rattle.extension_laws.proofs.FrontLemmas.{as-long, aside-all, beside-all, beside-apart, front-all, front-order, front-pairs, sums-grow, turned}

-- no two columns of one name
abbrev AreColumnsApart : List Column → Type 0
AreColumnsApart columns = AllPairs (λ a b. a.name ≢ b.name) columns

-- what is said of a stream without its partitions
record IsHead (name : List ℕ) (format : Format) (columns : List Column) : Type 0 where
  named : IsCountTo max_name (length name)
  form : IsFormat format
  count : IsCountTo max_columns (length columns)
  each : All IsColumn columns
  apart : AreColumnsApart columns

head-same : (m n : List ℕ) (f g : Format) (cs ds : List Column) → m ≡ n → f ≡ g → cs ≡ ds → IsHead m f cs → IsHead n g ds
head-same m n f g cs ds name format columns h =
    subst (λ x. IsHead x g ds) name (subst (λ x. IsHead m x ds) format (subst (λ x. IsHead m f x) columns h))

stream-head : (s : Stream) → IsStream s → IsHead s.name s.format s.columns
stream-head s h = record { named = h.name; form = h.format; count = h.column_count; each = h.columns; apart = h.column_names }

reference-head : (r : Reference) → IsReference r → IsHead r.name r.format r.columns
reference-head r h = record { named = h.name; form = h.format; count = h.column_count; each = h.columns; apart = h.column_names }

stream-of : (s : Stream) → IsHead s.name s.format s.columns → 1 ≤ length s.partitions → All IsPartition s.partitions → IsStream s
stream-of s h count partitions = record {
  name = h.named;
  format = h.form;
  column_count = h.count;
  columns = h.each;
  column_names = h.apart;
  partition_count = count;
  partitions = partitions;
}

reference-of : (r : Reference) → IsHead r.name r.format r.columns → HasSoundSnapshots r → IsReference r
reference-of r h sound = record {
  name = h.named;
  format = h.form;
  column_count = h.count;
  columns = h.each;
  column_names = h.apart;
  snapshots = sound.snapshots;
  order = sound.order;
}

-- ---- behind an extension

stream-behind : (x y : Stream) → IsStreamExtension x y → IsStream x → HasSoundPartitions y → IsStream y
stream-behind x y e h sound =
    let long : length x.partitions ≡ length y.partitions = as-long IsPartitionKept x.partitions y.partitions e.kept.partitions in
    let some : 1 ≤ length x.partitions = h.partition_count in
    stream-of y (head-same x.name y.name x.format y.format x.columns y.columns e.kept.name e.kept.format e.kept.columns (stream-head x h))
    (omega arith) sound

reference-behind : (w : ℕ) (x y : Reference) → IsReferenceExtension w x y → IsReference x → HasSoundSnapshots y → IsReference y
reference-behind w x y e h sound =
    reference-of y (head-same x.name y.name x.format y.format x.columns y.columns e.kept.name e.kept.format e.kept.columns (reference-head x h)) sound

streams-behind : (xs ys : List Stream) → AllZip IsStreamExtension xs ys → All IsStream xs → All HasSoundPartitions ys → All IsStream ys
streams-behind xs ys zip all sound k d within =
    let long : length xs ≡ length ys = as-long IsStreamExtension xs ys zip in
    let inside : k < length xs = omega arith in
    stream-behind (get_or xs k d) (get_or ys k d) (AllZip-get_or IsStreamExtension xs ys k d d zip inside) (all k d inside) (sound k d within)

references-behind : (w : ℕ) (xs ys : List Reference) → AllZip (IsReferenceExtension w) xs ys → All IsReference xs → All HasSoundSnapshots ys → All IsReference ys
references-behind w xs ys zip all sound k d within =
    let long : length xs ≡ length ys = as-long (IsReferenceExtension w) xs ys zip in
    let inside : k < length xs = omega arith in
    reference-behind w (get_or xs k d) (get_or ys k d) (AllZip-get_or (IsReferenceExtension w) xs ys k d d zip inside) (all k d inside) (sound k d within)

-- ---- before an extension

partition-before : (x y : Partition) → IsPartitionKept x y → IsPartition y → IsPartition x
partition-before x y g h =
    let fits : length x.segments ≤ length y.segments = front_fits y.segments x.segments g.0 g.1 in
    let most : length y.segments ≤ max_segments = h.count in
    record {
      count = omega arith;
      segments = front-all IsSegment x.segments y.segments g h.segments;
      order = front-order (λ s. s.through) x.segments y.segments g h.order;
    }

stream-before : (x y : Stream) → IsStreamExtension x y → IsStream y → IsStream x
stream-before x y e h =
    let long : length x.partitions ≡ length y.partitions = as-long IsPartitionKept x.partitions y.partitions e.kept.partitions in
    let some : 1 ≤ length y.partitions = h.partition_count in
    stream-of x (head-same y.name x.name y.format x.format y.columns x.columns (sym e.kept.name) (sym e.kept.format) (sym e.kept.columns) (stream-head y h))
    (omega arith) (aside-all IsPartitionKept IsPartition IsPartition partition-before x.partitions y.partitions e.kept.partitions h.partitions)

reference-before : (w : ℕ) (x y : Reference) → IsReferenceExtension w x y → IsReference y → IsReference x
reference-before w x y e h =
    reference-of x (head-same y.name x.name y.format x.format y.columns x.columns (sym e.kept.name) (sym e.kept.format) (sym e.kept.columns) (reference-head y h))
    (record {
      snapshots = front-all IsSnapshot x.snapshots y.snapshots e.kept.snapshots h.snapshots;
      order = front-pairs (λ a b. a.effective < b.effective) x.snapshots y.snapshots e.kept.snapshots h.order;
    })

-- ---- what both have

stream-name : (x y : Stream) → IsStreamExtension x y → x.name ≡ y.name
stream-name x y e = e.kept.name

reference-name : (w : ℕ) (x y : Reference) → IsReferenceExtension w x y → x.name ≡ y.name
reference-name w x y e = e.kept.name

partitions-equal : (x y : Stream) → IsStreamExtension x y → length x.partitions ≡ length y.partitions
partitions-equal x y e = as-long IsPartitionKept x.partitions y.partitions e.kept.partitions

-- a name of no stream before is one of no stream behind, and the other way
names-move : (R : Stream → Stream → Type 0) → ((x y : Stream) → R x y → x.name ≡ y.name) → (m n : List ℕ) → m ≡ n
    → (xs ys : List Stream) → AllZip R xs ys → All (λ s. s.name ≢ m) xs → All (λ s. s.name ≢ n) ys
names-move R same m n is xs ys zip all =
    beside-all R (λ s. s.name ≢ m) (λ s. s.name ≢ n) (λ x y r apart equal. apart (same x y r ∙ equal ∙ sym is)) xs ys zip all

sources-move : (R : Stream → Stream → Type 0) (S : Reference → Reference → Type 0)
    → ((x y : Stream) → R x y → x.name ≡ y.name) → ((x y : Reference) → S x y → x.name ≡ y.name)
    → (xs ys : List Stream) (rs ts : List Reference) → AllZip R xs ys → AllZip S rs ts
    → All (λ r. All (λ s. s.name ≢ r.name) xs) rs → All (λ r. All (λ s. s.name ≢ r.name) ys) ts
sources-move R S same also xs ys rs ts zip zipped all =
    beside-all S (λ r. All (λ s. s.name ≢ r.name) xs) (λ r. All (λ s. s.name ≢ r.name) ys)
    (λ x y r apart. names-move R same x.name y.name (also x y r) xs ys zip apart) rs ts zipped all

turned-name : (x y : Stream) → IsStreamExtension y x → x.name ≡ y.name
turned-name x y e = sym e.kept.name

turned-reference : (w : ℕ) (x y : Reference) → IsReferenceExtension w y x → x.name ≡ y.name
turned-reference w x y e = sym e.kept.name

-- ---- both

pub behind-well_formed : (old new : Inputs) (w : ℕ) → IsExtension old new w → IsWellFormed old → HasSoundParts new → IsWellFormed new
behind-well_formed old new w e h sound =
    let streams : length old.streams ≡ length new.streams = as-long IsStreamExtension old.streams new.streams e.streams in
    let references : length old.references ≡ length new.references = as-long (IsReferenceExtension w) old.references new.references e.references in
    let back : AllZip (λ y x. IsStreamExtension x y) new.streams old.streams = turned IsStreamExtension old.streams new.streams e.streams in
    let less : partition_count new.streams ≤ partition_count old.streams =
    sums-grow (λ y x. IsStreamExtension x y) (λ s. length s.partitions) (λ y x is. omega (arith, partitions-equal x y is)) new.streams old.streams back in
    let most : partition_count old.streams ≤ max_partitions = h.partition_count in
    record {
      stream_count = subst (IsCountTo max_streams) streams h.stream_count;
      streams = streams-behind old.streams new.streams e.streams h.streams sound.streams;
      stream_names = beside-apart IsStreamExtension (λ s. s.name) stream-name old.streams new.streams e.streams h.stream_names;
      partition_count = omega arith;
      reference_count = subst (λ n. n ≤ max_references) references h.reference_count;
      references = references-behind w old.references new.references e.references h.references sound.references;
      reference_names = beside-apart (IsReferenceExtension w) (λ r. r.name) (reference-name w) old.references new.references e.references h.reference_names;
      source_names = sources-move IsStreamExtension (IsReferenceExtension w) stream-name (reference-name w)
          old.streams new.streams old.references new.references e.streams e.references h.source_names;
      snapshot_count = sound.snapshot_count;
      policy = subst IsPolicy e.policy h.policy;
    }

pub before-well_formed : (old new : Inputs) (w : ℕ) → IsExtension old new w → IsWellFormed new → IsWellFormed old
before-well_formed old new w e h =
    let streams : length old.streams ≡ length new.streams = as-long IsStreamExtension old.streams new.streams e.streams in
    let references : length old.references ≡ length new.references = as-long (IsReferenceExtension w) old.references new.references e.references in
    let less : partition_count old.streams ≤ partition_count new.streams =
    sums-grow IsStreamExtension (λ s. length s.partitions) (λ x y is. omega (arith, partitions-equal x y is)) old.streams new.streams e.streams in
    let most : partition_count new.streams ≤ max_partitions = h.partition_count in
    let fewer : snapshot_count old.references ≤ snapshot_count new.references =
    sums-grow (IsReferenceExtension w) (λ r. length r.snapshots)
    (λ x y is. front_fits y.snapshots x.snapshots is.kept.snapshots.0 is.kept.snapshots.1) old.references new.references e.references in
    let bound : snapshot_count new.references ≤ max_snapshots = h.snapshot_count in
    let back : AllZip (λ y x. IsStreamExtension x y) new.streams old.streams = turned IsStreamExtension old.streams new.streams e.streams in
    let behind : AllZip (λ y x. IsReferenceExtension w x y) new.references old.references =
    turned (IsReferenceExtension w) old.references new.references e.references in
    record {
      stream_count = subst (IsCountTo max_streams) (sym streams) h.stream_count;
      streams = aside-all IsStreamExtension IsStream IsStream stream-before old.streams new.streams e.streams h.streams;
      stream_names = beside-apart (λ y x. IsStreamExtension x y) (λ s. s.name) turned-name new.streams old.streams back h.stream_names;
      partition_count = omega arith;
      reference_count = subst (λ n. n ≤ max_references) (sym references) h.reference_count;
      references = aside-all (IsReferenceExtension w) IsReference IsReference (reference-before w) old.references new.references e.references h.references;
      reference_names = beside-apart (λ y x. IsReferenceExtension w x y) (λ r. r.name) (turned-reference w) new.references old.references behind h.reference_names;
      source_names = sources-move (λ y x. IsStreamExtension x y) (λ y x. IsReferenceExtension w x y) turned-name (turned-reference w)
          new.streams old.streams new.references old.references back behind h.source_names;
      snapshot_count = omega arith;
      policy = subst IsPolicy (sym e.policy) h.policy;
    }
