-- No extension is refused, and no two refusals are due.
use Rattle.std.proofs.Common.{◌≡◌, ◌∙◌, ℕ, ◌≤◌, List, [], ◌∷◌, All, Bool, true, false, cond, Option, Some, None, ap, arith, find, inl, inr, nat_lt, option_map, refl, sym}
use Rattle.std.proofs.lemmas.Bool.Decides.{nat_tests}
use Rattle.std.proofs.lemmas.List.Elements.{All-cons, All-head, All-nil, All-tail}
use Rattle.std.proofs.lemmas.Option.{none-some}
use Rattle.std.specs.List.{AllZip}
use Rattle.input_extension.specs.Extension.{IsExtension, IsReferenceExtension, IsStreamExtension, further}
use Rattle.input_extension.specs.Refusals.{IsFirstRefused, IsReferenceRefused, IsRefused, IsStreamRefused, first_early}
use Rattle.input_extension.specs.declared.extend_err.ExtendErr.{ExtendErr}
use Rattle.input_extension.specs.declared.extend_err.ExtendErr.TheVariants.{Changed, AfterEnd, SnapshotTooEarly, Memory}
use Rattle.input_extension.proofs.WalkLemmas.{first-excludes, first-unique}
use Rattle.input_types.specs.declared.inputs.Inputs.{Inputs}
use Rattle.input_types.specs.declared.inputs.Reference.{Reference}
use Rattle.input_types.specs.declared.inputs.SnapshotName.{SnapshotName}
use Rattle.input_types.specs.declared.inputs.Stream.{Stream}

-- a snapshot that is in force from a moment on
abbrev IsFrom : ℕ → SnapshotName → Type 0
IsFrom w snapshot = w ≤ snapshot.effective

early-true : (m w : ℕ) → nat_lt m w ≡ true → w ≤ m → ⊥
early-true m w h k = grind (arith, nat_tests)

early-false : (m w : ℕ) → nat_lt m w ≡ false → w ≤ m
early-false m w h = grind (arith, nat_tests)

-- what is first behind a snapshot, by its own test
early-cons : (w : ℕ) (x : SnapshotName) (xs : List SnapshotName) (b : Bool) → nat_lt x.effective w ≡ b
    → first_early w (x ∷ xs) ≡ cond b (Some x.effective) (first_early w xs)
early-cons w x xs true h = ap (λ b. option_map (λ s. s.effective) (cond b (Some x) (find (λ s. nat_lt s.effective w) xs))) h
early-cons w x xs false h = ap (λ b. option_map (λ s. s.effective) (cond b (Some x) (find (λ s. nat_lt s.effective w) xs))) h

-- snapshots none of which is too early
pub early-none : (w : ℕ) (xs : List SnapshotName) → first_early w xs ≡ None → All (IsFrom w) xs
early-none w [] h = All-nil (IsFrom w)
early-none w (x ∷ xs) h = at (nat_lt x.effective w) refl (λ rest. early-none w xs rest) where
  at : (b : Bool) → nat_lt x.effective w ≡ b → (first_early w xs ≡ None → All (IsFrom w) xs) → All (IsFrom w) (x ∷ xs)
  at true is rest = absurd (none-some x.effective (sym h ∙ early-cons w x xs true is))
  at false is rest = All-cons (IsFrom w) x xs (early-false x.effective w is) (rest (sym (early-cons w x xs false is) ∙ h))

-- snapshots one of which is too early
pub early-some : (w : ℕ) (xs : List SnapshotName) (effective : ℕ) → first_early w xs ≡ Some effective → All (IsFrom w) xs → ⊥
early-some w [] effective h all = none-some effective h
early-some w (x ∷ xs) effective h all = at (nat_lt x.effective w) refl (λ found rest. early-some w xs effective found rest) where
  at : (b : Bool) → nat_lt x.effective w ≡ b → (first_early w xs ≡ Some effective → All (IsFrom w) xs → ⊥) → ⊥
  at true is rest = early-true x.effective w is (All-head (IsFrom w) x xs all)
  at false is rest = rest (sym (early-cons w x xs false is) ∙ h) (All-tail (IsFrom w) x xs all)

stream-excludes : (e : ExtendErr) (x y : Stream) → IsStreamRefused x y e → IsStreamExtension x y → ⊥
stream-excludes (Changed name) x y h extends = h.1 extends.kept
stream-excludes (AfterEnd name) x y h extends = h.2 extends.ended
stream-excludes (SnapshotTooEarly effective kept) x y h extends = h
stream-excludes Memory x y h extends = h

stream-unique : (e f : ExtendErr) (x y : Stream) → IsStreamRefused x y e → IsStreamRefused x y f → e ≡ f
stream-unique (Changed m) (Changed n) x y h k = ap (λ name. Changed name) (h.0 ∙ sym k.0)
stream-unique (Changed m) (AfterEnd n) x y h k = absurd (h.1 k.1)
stream-unique (Changed m) (SnapshotTooEarly effective kept) x y h k = absurd k
stream-unique (Changed m) Memory x y h k = absurd k
stream-unique (AfterEnd m) (Changed n) x y h k = absurd (k.1 h.1)
stream-unique (AfterEnd m) (AfterEnd n) x y h k = ap (λ name. AfterEnd name) (h.0 ∙ sym k.0)
stream-unique (AfterEnd m) (SnapshotTooEarly effective kept) x y h k = absurd k
stream-unique (AfterEnd m) Memory x y h k = absurd k
stream-unique (SnapshotTooEarly effective kept) f x y h k = absurd h
stream-unique Memory f x y h k = absurd h

reference-excludes : (w : ℕ) (e : ExtendErr) (x y : Reference) → IsReferenceRefused w x y e → IsReferenceExtension w x y → ⊥
reference-excludes w (Changed name) x y h extends = h.1 extends.kept
reference-excludes w (AfterEnd name) x y h extends = h
reference-excludes w (SnapshotTooEarly effective kept) x y h extends =
    early-some w (further x.snapshots y.snapshots) effective h.2 extends.snapshots
reference-excludes w Memory x y h extends = h

same-early : (m n v w kept : ℕ) (o : Option ℕ) → v ≡ kept → w ≡ kept → o ≡ Some m → o ≡ Some n → SnapshotTooEarly m v ≡ SnapshotTooEarly n w
same-early m n v w kept o a b c d = cc

reference-unique : (w : ℕ) (e f : ExtendErr) (x y : Reference) → IsReferenceRefused w x y e → IsReferenceRefused w x y f → e ≡ f
reference-unique w (Changed m) (Changed n) x y h k = ap (λ name. Changed name) (h.0 ∙ sym k.0)
reference-unique w (Changed m) (AfterEnd n) x y h k = absurd k
reference-unique w (Changed m) (SnapshotTooEarly effective kept) x y h k = absurd (h.1 k.1)
reference-unique w (Changed m) Memory x y h k = absurd k
reference-unique w (AfterEnd m) f x y h k = absurd h
reference-unique w (SnapshotTooEarly effective kept) (Changed n) x y h k = absurd (k.1 h.1)
reference-unique w (SnapshotTooEarly effective kept) (AfterEnd n) x y h k = absurd k
reference-unique w (SnapshotTooEarly m v) (SnapshotTooEarly n u) x y h k =
    same-early m n v u w (first_early w (further x.snapshots y.snapshots)) h.0 k.0 h.2 k.2
reference-unique w (SnapshotTooEarly effective kept) Memory x y h k = absurd k
reference-unique w Memory f x y h k = absurd h

streams-exclude : (old new : Inputs) (e : ExtendErr) → IsFirstRefused (λ s. s.name) IsStreamExtension IsStreamRefused old.streams new.streams e
    → AllZip IsStreamExtension old.streams new.streams → ⊥
streams-exclude old new e = first-excludes (λ s. s.name) IsStreamExtension IsStreamRefused e (stream-excludes e) old.streams new.streams

references-exclude : (old new : Inputs) (w : ℕ) (e : ExtendErr)
    → IsFirstRefused (λ r. r.name) (IsReferenceExtension w) (IsReferenceRefused w) old.references new.references e
    → AllZip (IsReferenceExtension w) old.references new.references → ⊥
references-exclude old new w e =
    first-excludes (λ r. r.name) (IsReferenceExtension w) (IsReferenceRefused w) e (reference-excludes w e) old.references new.references

pub refused-excludes : (old new : Inputs) (w : ℕ) (e : ExtendErr) → IsRefused old new w e → ¬ IsExtension old new w
refused-excludes old new w e h extends = elim h [
  | inl streams ↦ streams-exclude old new e streams extends.streams
  | inr behind ↦ elim behind [
    | inl references ↦ references-exclude old new w e references.1 extends.references
    | inr policy ↦ policy.2 extends.policy
  ]
]

pub refused-unique : (old new : Inputs) (w : ℕ) (e f : ExtendErr) → IsRefused old new w e → IsRefused old new w f → e ≡ f
refused-unique old new w e f h k = elim h [
  | inl first ↦ elim k [
    | inl also ↦ first-unique (λ s. s.name) IsStreamExtension IsStreamRefused e f (stream-excludes e) (stream-excludes f) (stream-unique e f)
        old.streams new.streams first also
    | inr behind ↦ absurd (streams-exclude old new e first (elim behind [ inl r ↦ r.0 | inr p ↦ p.0 ]))
  ]
  | inr later ↦ elim k [
    | inl first ↦ absurd (streams-exclude old new f first (elim later [ inl r ↦ r.0 | inr p ↦ p.0 ]))
    | inr behind ↦ elim later [
      | inl r ↦ elim behind [
        | inl also ↦ first-unique (λ s. s.name) (IsReferenceExtension w) (IsReferenceRefused w) e f (reference-excludes w e) (reference-excludes w f)
            (reference-unique w e f) old.references new.references r.1 also.1
        | inr p ↦ absurd (references-exclude old new w e r.1 p.1)
      ]
      | inr p ↦ elim behind [
        | inl r ↦ absurd (references-exclude old new w f r.1 p.1)
        | inr also ↦ p.3 ∙ sym also.3
      ]
    ]
  ]
]
