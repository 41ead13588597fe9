-- Why inputs don't go on from others: the first part that breaks a rule, where streams are walked
-- first, then references, then the policies.
use Rattle.std.specs.Prelude.{◌≡◌, ◌⊎◌, ℕ, List, [], ◌∷◌, codes, find, nat_lt, Option, Some, option_map}
use Rattle.std.specs.List.{AllZip}
use Rattle.input_extension.specs.Extension.{IsReferenceExtension, IsReferenceKept, IsStreamExtension, IsStreamKept}
use Rattle.input_extension.specs.Extension.{StaysEnded, further}
use Rattle.input_extension.specs.declared.extend_err.ExtendErr.{ExtendErr}
use Rattle.input_extension.specs.declared.extend_err.ExtendErr.TheVariants.{Changed, AfterEnd, SnapshotTooEarly, Memory}
use Rattle.input_types.specs.declared.inputs.Inputs.{Inputs}
use Rattle.input_types.specs.declared.inputs.Reference.{Reference}
use Rattle.input_types.specs.declared.inputs.SnapshotName.{SnapshotName}
use Rattle.input_types.specs.declared.inputs.Stream.{Stream}

-- the refusal is the one that is due, or memory ran out
abbrev pub IsDue : (ExtendErr → Type 0) → ExtendErr → Type 0
IsDue Due e = (e ≡ Memory) ⊎ Due e

-- why a stream doesn't go on: it isn't there as it was, or else a partition goes on behind its end
abbrev pub IsStreamRefused : Stream → Stream → ExtendErr → Type 0
IsStreamRefused old new (Changed name) = (name ≡ old.name) × (¬ IsStreamKept old new)
IsStreamRefused old new (AfterEnd name) =
    (name ≡ old.name) × IsStreamKept old new × (¬ AllZip StaysEnded old.partitions new.partitions)
IsStreamRefused old new (SnapshotTooEarly effective w) = ⊥
IsStreamRefused old new Memory = ⊥

-- from when on the first of these snapshots is in force that is so below a moment
abbrev pub first_early : ℕ → List SnapshotName → Option ℕ
first_early w snapshots =
    option_map (λ snapshot. snapshot.effective)
    (find (λ snapshot. nat_lt snapshot.effective w) snapshots)

-- why a reference doesn't go on: it isn't there as it was, or else a further snapshot is too early
abbrev pub IsReferenceRefused : ℕ → Reference → Reference → ExtendErr → Type 0
IsReferenceRefused w old new (Changed name) = (name ≡ old.name) × (¬ IsReferenceKept old new)
IsReferenceRefused w old new (AfterEnd name) = ⊥
IsReferenceRefused w old new (SnapshotTooEarly effective kept) =
    (kept ≡ w) × IsReferenceKept old new
    × (first_early w (further old.snapshots new.snapshots) ≡ Some effective)
IsReferenceRefused w old new Memory = ⊥

-- the first place at which two lists of sources part: an old one is gone, a new one has come, or
-- the two there are refused, and those at all places before go on
abbrev pub IsFirstRefused : {A : Type 0} → (A → List ℕ) → (A → A → Type 0)
    → (A → A → ExtendErr → Type 0) → List A → List A → ExtendErr → Type 0
IsFirstRefused called Extends Refused [] [] e = ⊥
IsFirstRefused called Extends Refused (old ∷ olds) [] e = e ≡ Changed (called old)
IsFirstRefused called Extends Refused [] (new ∷ news) e = e ≡ Changed (called new)
IsFirstRefused called Extends Refused (old ∷ olds) (new ∷ news) e =
    Refused old new e ⊎ (Extends old new × IsFirstRefused called Extends Refused olds news e)

-- why the streams don't go on
abbrev pub AreStreamsRefused : Inputs → Inputs → ExtendErr → Type 0
AreStreamsRefused old new e =
    IsFirstRefused (λ s. s.name) IsStreamExtension IsStreamRefused old.streams new.streams e

-- why the references don't
abbrev pub AreReferencesRefused : Inputs → Inputs → ℕ → ExtendErr → Type 0
AreReferencesRefused old new w e =
    IsFirstRefused (λ r. r.name) (IsReferenceExtension w) (IsReferenceRefused w)
    old.references new.references e

-- why the inputs don't go on
abbrev pub IsRefused : Inputs → Inputs → ℕ → ExtendErr → Type 0
IsRefused old new w e =
    AreStreamsRefused old new e
    ⊎ ((AllZip IsStreamExtension old.streams new.streams × AreReferencesRefused old new w e)
    ⊎ (AllZip IsStreamExtension old.streams new.streams
    × AllZip (IsReferenceExtension w) old.references new.references
    × (¬ (old.policy ≡ new.policy)) × (e ≡ Changed (codes "policy"))))
