-- A disk in memory.
use Rattle.std.specs.Prelude.{◌≡◌, ◌⊎◌, ◌/◌, ℕ, List, length, take}
use Rattle.outside.specs.Faults.{next_count}
use Rattle.outside.specs.FailingCalls.{FailingCalls, fresh_calls}
use Rattle.block_disk.specs.declared.call.Call.TheVariants.{Write}
use Rattle.block_disk.specs.Images.{FileHistory, fresh_history, history_after}

-- its file with the calls that made it, and which calls fail
pub record DiskInMemory : Type 0 where
  pub history : FileHistory
  pub failing : FailingCalls

-- before the first call, with all bytes on the disk
abbrev pub fresh_disk : List ℕ → List ℕ → DiskInMemory
fresh_disk bytes numbers =
    record { history = fresh_history bytes; failing = fresh_calls numbers }

-- of a write that is to fail the first half of the bytes is put; where there is no memory for that,
-- that is counted as a fault of its own
abbrev pub LeavesHalf : ℕ → List ℕ → DiskInMemory → DiskInMemory → Type 0
LeavesHalf at bytes old new =
    (new.history
    ≡ history_after (Write at (length bytes) (take (length bytes / 2) bytes)) old.history)
    ⊎ (new.failing.faults ≡ next_count (next_count old.failing.faults))
