-- What stays in every extension.
use Rattle.std.proofs.Common.{◌≡◌, ◌∙◌, ℕ, zero, suc, List, [], ◌∷◌, Option, Some, None, ap, length, map, option_and_then, refl, slice_get, sym}
use Rattle.std.specs.List.{AllZip}
use Rattle.input_extension.specs.Extension.{IsExtension, IsPartitionKept, IsReferenceExtension, IsStreamExtension}
use Rattle.input_extension.specs.Laws.{KeepsLanes, KeepsSources, bare_reference, bare_stream, segment_at}
use Rattle.input_extension.proofs.GrownLemmas.{grown-get}
use Rattle.input_types.specs.declared.inputs.Inputs.{Inputs}
use Rattle.input_types.specs.declared.inputs.Reference.{Reference}
use Rattle.input_types.specs.declared.inputs.SegmentName.{SegmentName}
use Rattle.input_types.specs.declared.inputs.Stream.{Stream}

-- what is the same of the two at each place is the same of the lists
mapped-same : {A B : Type 0} (R : A → A → Type 0) (f : A → B) → ((x y : A) → R x y → f x ≡ f y) → (xs ys : List A) → AllZip R xs ys → map f xs ≡ map f ys
mapped-same R f same [] [] all = refl
mapped-same R f same [] (y ∷ ys) all = absurd all
mapped-same R f same (x ∷ xs) [] all = absurd all
mapped-same R f same (x ∷ xs) (y ∷ ys) all =
    let first : f x ≡ f y = same x y all.0 in
    let rest : map f xs ≡ map f ys = mapped-same R f same xs ys all.1 in
    cc

as-long : {A : Type 0} (R : A → A → Type 0) (xs ys : List A) → AllZip R xs ys → length xs ≡ length ys
as-long R [] [] all = refl
as-long R [] (y ∷ ys) all = absurd all
as-long R (x ∷ xs) [] all = absurd all
as-long R (x ∷ xs) (y ∷ ys) all = ap (λ n. suc n) (as-long R xs ys all.1)

-- what is found at a number within, where the two at each place find the same
found-within : {A B : Type 0} (R : A → A → Type 0) (f : A → Option B) (b : B) → ((x y : A) → R x y → f x ≡ Some b → f y ≡ Some b)
    → (xs ys : List A) (i : ℕ) → AllZip R xs ys → option_and_then f (slice_get xs i) ≡ Some b → option_and_then f (slice_get ys i) ≡ Some b
found-within R f b same [] ys i all h = absurd cc
found-within R f b same (x ∷ xs) [] i all h = absurd all
found-within R f b same (x ∷ xs) (y ∷ ys) zero all h = same x y all.0 h
found-within R f b same (x ∷ xs) (y ∷ ys) (suc i) all h = found-within R f b same xs ys i all.1 h

-- a segment of a stream
segment_in : ℕ → ℕ → Stream → Option SegmentName
segment_in partition segment stream =
    option_and_then (λ p. slice_get p.segments segment) (slice_get stream.partitions partition)

segment-in : (inputs : Inputs) (stream partition segment : ℕ)
    → segment_at inputs stream partition segment ≡ option_and_then (segment_in partition segment) (slice_get inputs.streams stream)
unfolding segment_in
segment-in inputs stream partition segment = at (slice_get inputs.streams stream) where
  at : (o : Option Stream) → option_and_then (λ p. slice_get p.segments segment) (option_and_then (λ s. slice_get s.partitions partition) o)
      ≡ option_and_then (segment_in partition segment) o
  at None = refl
  at (Some s) = refl

stream-segment : (partition segment : ℕ) (found : SegmentName) (x y : Stream) → IsStreamExtension x y
    → segment_in partition segment x ≡ Some found → segment_in partition segment y ≡ Some found
unfolding segment_in
stream-segment partition segment found x y extends =
    found-within IsPartitionKept (λ p. slice_get p.segments segment) found
    (λ p q kept. grown-get p.segments q.segments kept segment found)
    x.partitions y.partitions partition extends.kept.partitions

pub keeps-lanes : (old new : Inputs) (w : ℕ) → IsExtension old new w → KeepsLanes old new
keeps-lanes old new w extends = record {
  partitions = mapped-same IsStreamExtension (λ s. length s.partitions)
      (λ x y is. as-long IsPartitionKept x.partitions y.partitions is.kept.partitions) old.streams new.streams extends.streams;
  segments = λ stream partition segment found h.
      segment-in new stream partition segment
      ∙ found-within IsStreamExtension (segment_in partition segment) found (stream-segment partition segment found)
      old.streams new.streams stream extends.streams (sym (segment-in old stream partition segment) ∙ h);
}

bare-stream : (x y : Stream) → IsStreamExtension x y → bare_stream x ≡ bare_stream y
bare-stream x y is =
    let name : x.name ≡ y.name = is.kept.name in
    let format : x.format ≡ y.format = is.kept.format in
    let columns : x.columns ≡ y.columns = is.kept.columns in
    cc

bare-reference : (w : ℕ) (x y : Reference) → IsReferenceExtension w x y → bare_reference x ≡ bare_reference y
bare-reference w x y is =
    let name : x.name ≡ y.name = is.kept.name in
    let format : x.format ≡ y.format = is.kept.format in
    let columns : x.columns ≡ y.columns = is.kept.columns in
    cc

pub keeps-sources : (old new : Inputs) (w : ℕ) → IsExtension old new w → KeepsSources old new
keeps-sources old new w extends = record {
  streams = mapped-same IsStreamExtension bare_stream bare-stream old.streams new.streams extends.streams;
  references = mapped-same (IsReferenceExtension w) bare_reference (bare-reference w) old.references new.references extends.references;
  policy = extends.policy;
}
