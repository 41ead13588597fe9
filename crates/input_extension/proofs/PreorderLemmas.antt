-- Inputs go on from themselves and from those two steps before.
use Rattle.std.proofs.Common.{◌≡◌, ◌∙◌, ℕ, ◌≤◌, List, [], ◌++◌, All, arith, drop, length, refl, subst, sym}
use Rattle.std.proofs.lemmas.List.{drop_all}
use Rattle.std.proofs.lemmas.List.Elements.{All-append, All-nil, All-weaker}
use Rattle.input_extension.specs.Extension.{IsExtension, IsGrown, IsPartitionKept, IsReferenceExtension, IsStreamExtension, StaysEnded, further}
use Rattle.input_extension.proofs.GrownLemmas.{further-grown, grown-same, grown-trans}
use Rattle.input_extension.proofs.WalkLemmas.{AllZip-same, AllZip-trans}
use Rattle.input_types.specs.declared.inputs.Inputs.{Inputs}
use Rattle.input_types.specs.declared.inputs.Partition.{Partition}
use Rattle.input_types.specs.declared.inputs.Reference.{Reference}
use Rattle.input_types.specs.declared.inputs.SnapshotName.{SnapshotName}
use Rattle.input_types.specs.declared.inputs.Stream.{Stream}

-- a snapshot that is in force from a moment on
abbrev IsFrom : ℕ → SnapshotName → Type 0
IsFrom w snapshot = w ≤ snapshot.effective

stream-same : (s : Stream) → IsStreamExtension s s
stream-same s = record {
  kept = record {
    name = refl;
    format = refl;
    columns = refl;
    partitions = AllZip-same IsPartitionKept (λ p. grown-same p.segments) s.partitions;
  };
  ended = AllZip-same StaysEnded (λ p ended. (ended, refl)) s.partitions;
}

none-further : (w : ℕ) (xs : List SnapshotName) → All (IsFrom w) (further xs xs)
none-further w xs =
    let none : drop (length xs) xs ≡ [] = drop_all (length xs) xs (omega arith) in
    subst (All (IsFrom w)) (sym none) (All-nil (IsFrom w))

reference-same : (w : ℕ) (r : Reference) → IsReferenceExtension w r r
reference-same w r = record {
  kept = record { name = refl; format = refl; columns = refl; snapshots = grown-same r.snapshots };
  snapshots = none-further w r.snapshots;
}

pub extension-same : (inputs : Inputs) (w : ℕ) → IsExtension inputs inputs w
extension-same inputs w = record {
  streams = AllZip-same IsStreamExtension stream-same inputs.streams;
  references = AllZip-same (IsReferenceExtension w) (reference-same w) inputs.references;
  policy = refl;
}

stays-trans : (x y z : Partition) → StaysEnded x y → StaysEnded y z → StaysEnded x z
stays-trans x y z h k ended =
    let first = h ended in
    let second = k first.0 in
    (second.0, second.1 ∙ first.1)

stream-trans : (x y z : Stream) → IsStreamExtension x y → IsStreamExtension y z → IsStreamExtension x z
stream-trans x y z h k = record {
  kept = record {
    name = h.kept.name ∙ k.kept.name;
    format = h.kept.format ∙ k.kept.format;
    columns = h.kept.columns ∙ k.kept.columns;
    partitions = AllZip-trans IsPartitionKept IsPartitionKept IsPartitionKept
        (λ p q r. grown-trans p.segments q.segments r.segments)
        x.partitions y.partitions z.partitions h.kept.partitions k.kept.partitions;
  };
  ended = AllZip-trans StaysEnded StaysEnded StaysEnded stays-trans x.partitions y.partitions z.partitions h.ended k.ended;
}

further-trans : (v w : ℕ) → v ≤ w → (xs ys zs : List SnapshotName) (g : IsGrown xs ys) (h : IsGrown ys zs)
    → All (IsFrom v) (further xs ys) → All (IsFrom w) (further ys zs) → All (IsFrom v) (further xs zs)
further-trans v w le xs ys zs g h first second =
    let near : All (IsFrom v) g.0 = subst (All (IsFrom v)) (further-grown xs ys g) first in
    let far : All (IsFrom w) h.0 = subst (All (IsFrom w)) (further-grown ys zs h) second in
    let weaker : All (IsFrom v) h.0 = All-weaker (IsFrom w) (IsFrom v) (λ s is. omega arith) h.0 far in
    let both : All (IsFrom v) (g.0 ++ h.0) = All-append (IsFrom v) g.0 h.0 near weaker in
    subst (All (IsFrom v)) (sym (further-grown xs zs (grown-trans xs ys zs g h))) both

reference-trans : (v w : ℕ) → v ≤ w → (x y z : Reference) → IsReferenceExtension v x y → IsReferenceExtension w y z → IsReferenceExtension v x z
reference-trans v w le x y z h k = record {
  kept = record {
    name = h.kept.name ∙ k.kept.name;
    format = h.kept.format ∙ k.kept.format;
    columns = h.kept.columns ∙ k.kept.columns;
    snapshots = grown-trans x.snapshots y.snapshots z.snapshots h.kept.snapshots k.kept.snapshots;
  };
  snapshots = further-trans v w le x.snapshots y.snapshots z.snapshots h.kept.snapshots k.kept.snapshots h.snapshots k.snapshots;
}

pub extension-trans : (first second third : Inputs) (v w : ℕ) → v ≤ w → IsExtension first second v → IsExtension second third w → IsExtension first third v
extension-trans first second third v w le h k = record {
  streams = AllZip-trans IsStreamExtension IsStreamExtension IsStreamExtension stream-trans first.streams second.streams third.streams h.streams k.streams;
  references = AllZip-trans (IsReferenceExtension v) (IsReferenceExtension w) (IsReferenceExtension v) (reference-trans v w le)
      first.references second.references third.references h.references k.references;
  policy = h.policy ∙ k.policy;
}
