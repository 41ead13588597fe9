-- What is to be looked at in inputs that go on from well-formed ones: segments and snapshots.
use Rattle.std.specs.Prelude.{◌≤◌, ◌<◌, All, AllPairs}
use Rattle.input_book.specs.Checks.{snapshot_count}
use Rattle.input_book.specs.Laws.{IsPartition, IsSnapshot}
use Rattle.input_book.specs.Limits.{max_snapshots}
use Rattle.input_types.specs.declared.inputs.Inputs.{Inputs}
use Rattle.input_types.specs.declared.inputs.Reference.{Reference}
use Rattle.input_types.specs.declared.inputs.Stream.{Stream}

-- the segments of each partition are within their limits, and their moments never fall
abbrev pub HasSoundPartitions : Stream → Type 0
HasSoundPartitions stream = All IsPartition stream.partitions

-- the snapshots of a reference are within their limits, and their moments rise
pub record HasSoundSnapshots (reference : Reference) : Type 0 where
  pub snapshots : All IsSnapshot reference.snapshots
  pub order : AllPairs (λ a b. a.effective < b.effective) reference.snapshots

-- segments and snapshots are in order, and there are no more snapshots than may be
pub record HasSoundParts (inputs : Inputs) : Type 0 where
  pub streams : All HasSoundPartitions inputs.streams
  pub references : All HasSoundSnapshots inputs.references
  pub snapshot_count : snapshot_count inputs.references ≤ max_snapshots
