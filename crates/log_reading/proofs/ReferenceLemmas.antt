-- The snapshots of references, one after the other.
use Rattle.std.proofs.Common.{◌≡◌, ℕ, zero, suc, ◌<◌, List, [], ◌∷◌, ◌++◌, map, Option, Some, None, refl, ap, sym, ◌∙◌, arith}
use Rattle.std.proofs.lemmas.List.{map_push}
use Rattle.std.proofs.lemmas.List.Elements.{All-head, All-tail}
use Rattle.std.specs.List.{All, AllPairs}
use Rattle.std.specs.Option.{IfSome}
use Rattle.std.specs.Prelude.{slice_get}
use Rattle.event_value.specs.declared.record.Stamped.{Stamped}
use Rattle.input_book.specs.Laws.{IsReference, IsWellFormed}
use Rattle.input_types.specs.declared.inputs.Inputs.{Inputs}
use Rattle.input_types.specs.declared.inputs.Reference.{Reference}
use Rattle.input_types.specs.declared.inputs.SnapshotName.{SnapshotName}
use Rattle.outside.specs.KnownFiles.{KnownFiles, files_after_asking}
use Rattle.row_order.specs.InOrder.{AllFrom}
use Rattle.stream_joins.specs.Snapshots.{Ascend, Snapshots}
use Rattle.log_reading.specs.Asking.{Asks}
use Rattle.log_reading.specs.References.{effective_moments, rows_of_file, snapshots_found, snapshots_in}
use Rattle.log_reading.proofs.KnownLemmas.{IfSome-before, at_none, both}
use Rattle.log_reading.proofs.LogLemmas.{All-slice_get}

-- each of these is what the files say of one of those
abbrev pub AreOf : {X Y : Type 0} → Option KnownFiles → (KnownFiles → X → Y) → List X → List Y → Type 0
AreOf files said xs ys = IfSome files (λ known. ys ≡ map (said known) xs)

pub AreOf-start : {X Y : Type 0} (files : Option KnownFiles) (said : KnownFiles → X → Y) (ys : List Y) → ys ≡ [] → AreOf files said [] ys
AreOf-start files said ys none = at_none files (λ (known : KnownFiles). ys ≡ map (said known) []) (λ known. none)

-- one more, of files that were asked for and hold what they held
pub AreOf-next : {X Y : Type 0} (files middle : Option KnownFiles) (said : KnownFiles → X → Y) (asked : List (List ℕ)) (xs : List X) (x : X) (ys : List Y) (y : Y) (all : List Y)
    → ((known : KnownFiles) (left : List ℕ) → said (files_after_asking asked left known) x ≡ said known x)
    → all ≡ ys ++ y ∷ [] → Asks asked files middle → AreOf files said xs ys → IfSome middle (λ known. y ≡ said known x)
    → AreOf files said (xs ++ x ∷ []) all
AreOf-next files middle said asked xs x ys y all same is asks front last =
    both files (λ (known : KnownFiles). ys ≡ map (said known) xs) (λ (known : KnownFiles). y ≡ said known x)
    (λ (known : KnownFiles). all ≡ map (said known) (xs ++ x ∷ []))
    (λ known a b.
    is ∙ ap (λ zs. zs ++ y ∷ []) a ∙ ap (λ z. map (said known) xs ++ z ∷ []) b ∙ sym (map_push (said known) xs x))
    front
    (IfSome-before (λ (known : KnownFiles). y ≡ said known x) asked files middle (λ known left h. h ∙ same known left) asks last)

-- asking for files doesn't change what they hold
pub snapshots_found-after : (asked : List (List ℕ)) (left : List ℕ) (known : KnownFiles) (found : Option Reference)
    → snapshots_found (files_after_asking asked left known) found ≡ snapshots_found known found
snapshots_found-after asked left known None = refl
snapshots_found-after asked left known (Some reference) = refl

-- the moments, and the rows that the files hold
pub snapshots-read : (files : Option KnownFiles) (reference : Reference) (moments : List ℕ) (rows : List (List Stamped)) (read : Snapshots)
    → read ≡ record { effective = moments; rows = rows } → moments ≡ effective_moments reference.snapshots
    → AreOf files (λ known s. rows_of_file known reference s.file) reference.snapshots rows
    → IfSome files (λ known. read ≡ snapshots_in known reference)
snapshots-read None reference moments rows read is effective held = tt
snapshots-read (Some known) reference moments rows read is effective held =
    is ∙ ap (λ ms. record { effective = ms; rows = rows }) effective
    ∙ ap (λ rs. record { effective = effective_moments reference.snapshots; rows = rs }) held

-- ---- moments that rise ascend

all-from : (n : ℕ) (xs : List SnapshotName) → All (λ s. n < s.effective) xs → AllFrom (λ moment. moment) n (effective_moments xs)
all-from n [] h = tt
all-from n (x ∷ xs) h = (
  (let first : n < x.effective = All-head (λ (s : SnapshotName). n < s.effective) x xs h in omega (arith, first)),
  all-from n xs (All-tail (λ (s : SnapshotName). n < s.effective) x xs h),
)

pub Ascend-moments : (xs : List SnapshotName) → AllPairs (λ a b. a.effective < b.effective) xs → Ascend (effective_moments xs)
Ascend-moments [] h = tt
Ascend-moments (x ∷ xs) h = (
  all-from x.effective xs (λ k d within. h zero (suc k) d (omega arith) (omega arith)),
  Ascend-moments xs (λ i j d below within. h (suc i) (suc j) d (omega arith) (omega arith)),
)

pub IsReference-at : (inputs : Inputs) (n : ℕ) (reference : Reference) → IsWellFormed inputs → slice_get inputs.references n ≡ Some reference → IsReference reference
IsReference-at inputs n reference formed is = All-slice_get IsReference inputs.references n reference formed.references is
