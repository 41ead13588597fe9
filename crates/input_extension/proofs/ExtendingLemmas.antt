-- The walk over whole inputs, from what is known of their lists.
use Rattle.std.proofs.Common.{◌≡◌, ◌∙◌, ℕ, ◌≤◌, List, All, None, ap, codes, drop, inl, inr, length, subst, sym}
use Rattle.std.specs.List.{AllZip}
use Rattle.input_extension.specs.Extension.{IsReferenceExtension, IsStreamExtension, further}
use Rattle.input_extension.specs.Refusals.{IsDue, IsFirstRefused, IsReferenceRefused, IsRefused, IsStreamRefused, first_early}
use Rattle.input_extension.specs.declared.extend_err.ExtendErr.{ExtendErr}
use Rattle.input_extension.specs.declared.extend_err.ExtendErr.TheVariants.{Changed}
use Rattle.input_extension.proofs.RefusalLemmas.{early-none}
use Rattle.input_extension.proofs.WalkLemmas.{due-from}
use Rattle.input_types.specs.declared.inputs.Inputs.{Inputs}
use Rattle.input_types.specs.declared.inputs.Reference.{Reference}
use Rattle.input_types.specs.declared.inputs.SnapshotName.{SnapshotName}
use Rattle.input_types.specs.declared.inputs.Stream.{Stream}

-- the same lists by other names
pub zip-along : {A : Type 0} (R : A → A → Type 0) (xs ys olds news : List A) → xs ≡ olds → ys ≡ news → AllZip R xs ys → AllZip R olds news
zip-along {A} R xs ys olds news is also all =
    let P : List A → Type 0 = λ l. AllZip R l ys in
    let Q : List A → Type 0 = λ l. AllZip R olds l in
    subst Q also (subst P is all)

first-along : {A : Type 0} (called : A → List ℕ) (Extends : A → A → Type 0) (Refused : A → A → ExtendErr → Type 0) (e : ExtendErr)
    → (xs ys olds news : List A) → xs ≡ olds → ys ≡ news → IsFirstRefused called Extends Refused xs ys e → IsFirstRefused called Extends Refused olds news e
first-along {A} called Extends Refused e xs ys olds news is also h =
    let P : List A → Type 0 = λ l. IsFirstRefused called Extends Refused l ys e in
    let Q : List A → Type 0 = λ l. IsFirstRefused called Extends Refused olds l e in
    subst Q also (subst P is h)

pub due-streams : (old new : Inputs) (w : ℕ) (e : ExtendErr) (xs ys : List Stream) → xs ≡ old.streams → ys ≡ new.streams
    → IsDue (IsFirstRefused (λ s. s.name) IsStreamExtension IsStreamRefused xs ys) e → IsDue (IsRefused old new w) e
due-streams old new w e xs ys is also due =
    due-from (IsFirstRefused (λ s. s.name) IsStreamExtension IsStreamRefused xs ys) (IsRefused old new w) e
    (λ h. inl (first-along (λ s. s.name) IsStreamExtension IsStreamRefused e xs ys old.streams new.streams is also h)) due

pub due-references : (old new : Inputs) (w : ℕ) (e : ExtendErr) (xs ys : List Reference) → AllZip IsStreamExtension old.streams new.streams
    → xs ≡ old.references → ys ≡ new.references
    → IsDue (IsFirstRefused (λ r. r.name) (IsReferenceExtension w) (IsReferenceRefused w) xs ys) e → IsDue (IsRefused old new w) e
due-references old new w e xs ys streams is also due =
    due-from (IsFirstRefused (λ r. r.name) (IsReferenceExtension w) (IsReferenceRefused w) xs ys) (IsRefused old new w) e
    (λ h. inr (inl (streams, first-along (λ r. r.name) (IsReferenceExtension w) (IsReferenceRefused w) e xs ys old.references new.references is also h))) due

pub due-policy : (old new : Inputs) (w : ℕ) (name : List ℕ) → AllZip IsStreamExtension old.streams new.streams
    → AllZip (IsReferenceExtension w) old.references new.references → (old.policy ≡ new.policy → ⊥) → name ≡ codes "policy"
    → IsDue (IsRefused old new w) (Changed name)
due-policy old new w name streams references other told = inr (inr (inr (streams, references, other, ap (λ n. Changed n) told)))

-- further snapshots none of which is too early
pub none-early : (w : ℕ) (old new back xs : List SnapshotName) (n : ℕ) → None ≡ first_early w back → back ≡ drop n xs → xs ≡ new → n ≡ length old
    → All (λ snapshot. w ≤ snapshot.effective) (further old new)
none-early w old new back xs n none is also as_long =
    let same : back ≡ further old new = is ∙ ap (λ l. drop n l) also ∙ ap (λ k. drop k new) as_long in
    let P : List SnapshotName → Type 0 = λ l. first_early w l ≡ None in
    early-none w (further old new) (subst P same (sym none))
