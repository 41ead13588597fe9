-- What holds of every extension, and of every refusal.
use Rattle.std.specs.Prelude.{◌≡◌, ℕ, ◌≤◌, [], length, map, slice_get, Option, Some, option_and_then}
use Rattle.input_extension.specs.Extension.{IsExtension}
use Rattle.input_extension.specs.Refusals.{IsRefused}
use Rattle.input_extension.specs.declared.extend_err.ExtendErr.{ExtendErr}
use Rattle.input_types.specs.declared.inputs.Inputs.{Inputs}
use Rattle.input_types.specs.declared.inputs.Partition.{Partition}
use Rattle.input_types.specs.declared.inputs.Reference.{Reference}
use Rattle.input_types.specs.declared.inputs.SegmentName.{SegmentName}
use Rattle.input_types.specs.declared.inputs.Stream.{Stream}

-- inputs go on from themselves, and what goes on from what goes on from others goes on from these, for
-- the lower moment of the two
pub record IsPreorder : Type 0 where
  pub same : (inputs : Inputs) (w : ℕ) → IsExtension inputs inputs w
  pub transitive : (first second third : Inputs) (v w : ℕ) → v ≤ w
      → IsExtension first second v → IsExtension second third w → IsExtension first third v

-- no extension is refused, and no two refusals are due
pub record IsExact (old new : Inputs) (w : ℕ) : Type 0 where
  pub excluded : (e : ExtendErr) → IsRefused old new w e → ¬ IsExtension old new w
  pub unique : (e f : ExtendErr) → IsRefused old new w e → IsRefused old new w f → e ≡ f

-- a partition of a stream, by their numbers
abbrev pub partition_at : Inputs → ℕ → ℕ → Option Partition
partition_at inputs stream partition =
    option_and_then (λ s. slice_get s.partitions partition) (slice_get inputs.streams stream)

-- a segment of a partition, by its number
abbrev pub segment_at : Inputs → ℕ → ℕ → ℕ → Option SegmentName
segment_at inputs stream partition segment =
    option_and_then (λ p. slice_get p.segments segment) (partition_at inputs stream partition)

-- the streams have as many partitions, and the number of a segment names the same one
pub record KeepsLanes (old new : Inputs) : Type 0 where
  pub partitions :
      map (λ stream. length stream.partitions) old.streams
      ≡ map (λ stream. length stream.partitions) new.streams
  pub segments : (stream partition segment : ℕ) (found : SegmentName)
      → segment_at old stream partition segment ≡ Some found
      → segment_at new stream partition segment ≡ Some found

-- a stream without its partitions: what a query sees of it
abbrev pub bare_stream : Stream → Stream
bare_stream stream = record stream { partitions = [] }

-- a reference without its snapshots, likewise
abbrev pub bare_reference : Reference → Reference
bare_reference reference = record reference { snapshots = [] }

-- sources have the names, formats and columns that they had, in the same order
pub record KeepsSources (old new : Inputs) : Type 0 where
  pub streams : map bare_stream old.streams ≡ map bare_stream new.streams
  pub references : map bare_reference old.references ≡ map bare_reference new.references
  pub policy : old.policy ≡ new.policy
