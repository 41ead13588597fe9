-- When inputs go on from others, for a job whose rows are kept below a moment: they are the others
-- with further segments, ended partitions, and snapshots that are in force from that moment on.
use Rattle.std.specs.Prelude.{◌≡◌, ℕ, ◌≤◌, List, ◌++◌, length, drop, All, IsTrue}
use Rattle.std.specs.List.{AllZip}
use Rattle.input_types.specs.declared.inputs.Inputs.{Inputs}
use Rattle.input_types.specs.declared.inputs.Partition.{Partition}
use Rattle.input_types.specs.declared.inputs.Reference.{Reference}
use Rattle.input_types.specs.declared.inputs.Stream.{Stream}

-- a list, and the same with further items behind it
abbrev pub IsGrown : {A : Type 0} → List A → List A → Type 0
IsGrown {A} old new = (more : List A) × (new ≡ old ++ more)

-- the items of a new list behind those of the old one
abbrev pub further : {A : Type 0} → List A → List A → List A
further old new = drop (length old) new

-- the segments of a partition are there as they were, and perhaps further ones
abbrev pub IsPartitionKept : Partition → Partition → Type 0
IsPartitionKept old new = IsGrown old.segments new.segments

-- a partition that has ended has no further segment, and is still ended
abbrev pub StaysEnded : Partition → Partition → Type 0
StaysEnded old new =
    IsTrue old.ended → IsTrue new.ended × (length new.segments ≡ length old.segments)

-- all that a stream had is there as it was, and no column and no partition is new
pub record IsStreamKept (old new : Stream) : Type 0 where
  pub name : old.name ≡ new.name
  pub format : old.format ≡ new.format
  pub columns : old.columns ≡ new.columns
  pub partitions : AllZip IsPartitionKept old.partitions new.partitions

-- a stream that goes on
pub record IsStreamExtension (old new : Stream) : Type 0 where
  pub kept : IsStreamKept old new
  pub ended : AllZip StaysEnded old.partitions new.partitions

-- all that a reference had is there as it was, and no column is new
pub record IsReferenceKept (old new : Reference) : Type 0 where
  pub name : old.name ≡ new.name
  pub format : old.format ≡ new.format
  pub columns : old.columns ≡ new.columns
  pub snapshots : IsGrown old.snapshots new.snapshots

-- a reference that goes on, where rows are kept below a moment
pub record IsReferenceExtension (w : ℕ) (old new : Reference) : Type 0 where
  pub kept : IsReferenceKept old new
  pub snapshots : All (λ snapshot. w ≤ snapshot.effective) (further old.snapshots new.snapshots)

-- inputs that go on: each source at its place, and no other one
pub record IsExtension (old new : Inputs) (w : ℕ) : Type 0 where
  pub streams : AllZip IsStreamExtension old.streams new.streams
  pub references : AllZip (IsReferenceExtension w) old.references new.references
  pub policy : old.policy ≡ new.policy
