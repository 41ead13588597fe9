-- What holds of references that no check refuses.
use Rattle.std.proofs.Common.{◌≡◌, ℕ, ◌+◌, ◌<◌, ◌≤◌, ◌≢◌, List, [], ◌∷◌, ◌++◌, length, get_or, map, subst, Bool, true, false, nat_lt, append_assoc, append-nil, arith, codes, Ok, Option, Some, None}
use Rattle.std.proofs.lemmas.Bool.Decides.{nat_tests}
use Rattle.std.proofs.lemmas.List.Elements.{All-nil, All-cons}
use Rattle.std.proofs.lemmas.List.Kept.{AllPairs-cons}
use Rattle.std.proofs.lemmas.List.Sums.{sum_by-append, fold-append}
use Rattle.std.specs.Prelude.{All, AllPairs}
use Rattle.input_book.specs.Checks.{Check, each, count_check, name_check, column_names, effective_check, effective_order, is_above, is_among, last_effective}
use Rattle.input_book.specs.Checks.{reference_limits, reference_names, reference_order, references_limits, references_names, snapshot_count, snapshot_order}
use Rattle.input_book.specs.Limits.{max_columns, max_references, max_snapshots}
use Rattle.input_book.specs.declared.input_err.InputErr.TheVariants.{EffectiveOrder, Twice}
use Rattle.input_types.specs.declared.inputs.Inputs.{Inputs}
use Rattle.input_types.specs.declared.inputs.Reference.{Reference}
use Rattle.input_types.specs.declared.inputs.SnapshotName.{SnapshotName}
use Rattle.input_types.specs.declared.inputs.Stream.{Stream}
use Rattle.input_book.proofs.CheckLemmas.{Passes, columns-named, count-ok, each-all, each-cons, if_passes, is_among-false, name-new, names-apart}
use Rattle.input_book.proofs.ReadingLemmas.{bind-then, lt-true}

-- no two columns of a reference have one name
abbrev pub AreApart : Reference → Type 0
AreApart reference = AllPairs (λ a b. a.name ≢ b.name) reference.columns

-- its snapshots rise in time
abbrev pub DoRise : Reference → Type 0
DoRise reference = AllPairs (λ a b. a.effective < b.effective) reference.snapshots

reference-within : (before : ℕ) (r : Reference) → reference_limits before r ≡ Ok tt → (length r.columns ≤ max_columns) × (before + length r.snapshots ≤ max_snapshots)
reference-within before r h =
    bind-then (count_check max_columns (codes "columns") (length r.columns)) _ tt h (λ _ columns snapshots. (
      count-ok max_columns (codes "columns") (length r.columns) columns,
      count-ok max_snapshots (codes "snapshots") (before + length r.snapshots) snapshots,
    ))

snapshots-within : (list : List ℕ) (passed xs : List Reference) → snapshot_count passed ≤ max_snapshots
    → each (λ p r. reference_limits (snapshot_count p) r) list passed xs ≡ Ok tt → snapshot_count (passed ++ xs) ≤ max_snapshots
snapshots-within list passed [] before h = rw append-nil before
snapshots-within list passed (x ∷ xs) before h =
    each-cons (λ p r. reference_limits (snapshot_count p) r) list passed x xs h (λ first rest.
    let (columns, within) = reference-within (snapshot_count passed) x first in
    let added : snapshot_count (passed ++ x ∷ []) ≡ snapshot_count passed + snapshot_count (x ∷ []) = sum_by-append (λ r. length r.snapshots) passed (x ∷ []) in
    let more : snapshot_count (passed ++ x ∷ []) ≤ max_snapshots = omega (arith, added, within) in
    let whole : snapshot_count ((passed ++ x ∷ []) ++ xs) ≤ max_snapshots = snapshots-within list (passed ++ x ∷ []) xs more rest in
    subst (λ rs. snapshot_count rs ≤ max_snapshots) (append_assoc passed (x ∷ []) xs) whole)

pub reference_limits-keep : (references : List Reference) → Passes (references_limits references)
    → (length references ≤ max_references) × All (λ r. length r.columns ≤ max_columns) references × (snapshot_count references ≤ max_snapshots)
unfolding references_limits
reference_limits-keep references h =
    bind-then (count_check max_references (codes "reference") (length references)) _ tt h (λ _ count rest.
    let check : List Reference → Reference → Check = λ passed r. reference_limits (snapshot_count passed) r in (
      count-ok max_references (codes "reference") (length references) count,
      each-all check (λ r. length r.columns ≤ max_columns) (λ passed r given. (reference-within (snapshot_count passed) r given).0) (codes "reference") [] references rest,
      snapshots-within (codes "reference") [] references (omega arith) rest,
    ))

reference-named : (streams : List Stream) (passed : List Reference) (r : Reference) → Passes (reference_names streams passed r)
    → All (λ s. s.name ≢ r.name) streams × (is_among (map (λ r. r.name) passed) r.name ≡ false) × AreApart r
reference-named streams passed r h =
    bind-then (name_check (map (λ s. s.name) streams) r.name) _ tt h (λ _ first h1.
    bind-then (name_check (map (λ r. r.name) passed) r.name) _ tt h1 (λ _ second rest. (
      is_among-false (λ s. s.name) streams r.name (name-new (map (λ s. s.name) streams) r.name first),
      name-new (map (λ r. r.name) passed) r.name second,
      columns-named r.columns rest,
    )))

pub reference_names-keep : (streams : List Stream) (references : List Reference) → Passes (references_names streams references)
    → All AreApart references × AllPairs (λ a b. a.name ≢ b.name) references × All (λ r. All (λ s. s.name ≢ r.name) streams) references
unfolding references_names
reference_names-keep streams references h = (
  each-all (reference_names streams) AreApart (λ passed r given. (reference-named streams passed r given).2) (codes "reference") [] references h,
  (names-apart (λ r. r.name) (reference_names streams) (λ passed r given. (reference-named streams passed r given).1) (codes "reference") [] references h).1,
  each-all (reference_names streams) (λ r. All (λ s. s.name ≢ r.name) streams) (λ passed r given. (reference-named streams passed r given).0) (codes "reference") [] references h,
)

-- a moment above another, if there is one
abbrev IsAbove : Option ℕ → ℕ → Type 0
IsAbove None moment = Unit {0}
IsAbove (Some before) moment = before < moment

above-true : (before : Option ℕ) (moment : ℕ) → is_above before moment ≡ true → IsAbove before moment
above-true None moment h = tt
above-true (Some before) moment h = lt-true before moment h

above-more : (before : Option ℕ) (m n : ℕ) → IsAbove before m → m < n → IsAbove before n
above-more None m n h k = tt
above-more (Some before) m n h k = omega arith

last_effective-push : (passed : List SnapshotName) (s : SnapshotName) → last_effective (passed ++ s ∷ []) ≡ Some s.effective
last_effective-push passed s = fold-append (λ _ t. Some t.effective) None passed (s ∷ [])

snapshot-follows : (passed : List SnapshotName) (s : SnapshotName) → Passes (snapshot_order passed s) → IsAbove (last_effective passed) s.effective
snapshot-follows passed s h = above-true (last_effective passed) s.effective (if_passes (is_above (last_effective passed) s.effective) (EffectiveOrder (codes "effective")) h)

snapshots-rise : (list : List ℕ) (passed xs : List SnapshotName) → Passes (each snapshot_order list passed xs)
    → All (λ s. IsAbove (last_effective passed) s.effective) xs × AllPairs (λ a b. a.effective < b.effective) xs
snapshots-rise list passed [] h = (All-nil (λ s. IsAbove (last_effective passed) s.effective), λ i j d below within. absurd (omega arith))
snapshots-rise list passed (x ∷ xs) h =
    each-cons snapshot_order list passed x xs h (λ first rest.
    let (after, rise) = snapshots-rise list (passed ++ x ∷ []) xs rest in
    let follows : IsAbove (last_effective passed) x.effective = snapshot-follows passed x first in
    let above : All (λ s. x.effective < s.effective) xs = subst (λ o. All (λ s. IsAbove o s.effective) xs) (last_effective-push passed x) after in (
      All-cons (λ s. IsAbove (last_effective passed) s.effective) x xs follows (λ k d within. above-more (last_effective passed) x.effective (get_or xs k d).effective follows (above k d within)),
      AllPairs-cons (λ a b. a.effective < b.effective) x xs above rise,
    ))

pub effective-keeps : (inputs : Inputs) → Passes (effective_order inputs) → All DoRise inputs.references
unfolding effective_order
effective-keeps inputs h =
    each-all (λ _ r. reference_order r) DoRise (λ _ r given. (snapshots-rise (codes "snapshots") [] r.snapshots given).1) (codes "reference") [] inputs.references h
