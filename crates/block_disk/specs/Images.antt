-- What a stop may leave of a disk in memory, by the calls that it has carried out.
use Rattle.std.specs.Prelude.{◌≡◌, ◌≤◌, ◌⊎◌, ℕ, List, [], ◌∷◌, ◌++◌, length, take, reverse}
use Rattle.block_disk.specs.declared.call.Call.{Call}
use Rattle.block_disk.specs.declared.call.Call.TheVariants.{Write, Sync}
use Rattle.block_disk.specs.Stops.{put, TornWrite}

-- a file as it was first, and the calls since, the oldest first
pub record FileHistory : Type 0 where
  pub first : List ℕ
  pub calls : List Call

-- before the first call
abbrev pub fresh_history : List ℕ → FileHistory
fresh_history first = record { first = first; calls = [] }

-- one call more
abbrev pub history_after : Call → FileHistory → FileHistory
history_after call history =
    record { first = history.first; calls = history.calls ++ call ∷ [] }

-- what a call makes of what a read gives
abbrev pub file_by : Call → List ℕ → List ℕ
file_by (Write at count part) file = put at part file
file_by Sync file = file

-- what a read gives after these calls, the newest first
abbrev pub file_after : List ℕ → List Call → List ℕ
file_after first [] = first
file_after first (call ∷ calls) = file_by call (file_after first calls)

-- what a read gives
abbrev pub file_of : FileHistory → List ℕ
file_of history = file_after history.first (reverse history.calls)

-- what a stop may leave after these calls, the newest first: after a write the file as it reads, or
-- an earlier image with the range of the write torn; after a sync the file as it reads alone
abbrev pub IsImageAfter : List ℕ → List Call → List ℕ → Type 0
IsImageAfter first [] c = c ≡ first
IsImageAfter first (Write at count part ∷ calls) c =
    (c ≡ put at part (file_after first calls))
    ⊎ ((d : List ℕ) × IsImageAfter first calls d × TornWrite at count d c)
IsImageAfter first (Sync ∷ calls) c = c ≡ file_after first calls

-- the moment, by how many calls there were
abbrev pub moment_of : FileHistory → ℕ
moment_of history = length history.calls

-- what a stop now may leave
abbrev pub IsImage : FileHistory → List ℕ → Type 0
IsImage history c = IsImageAfter history.first (reverse history.calls) c

-- what a stop may have left after some number of the calls, and not fewer than t of them
abbrev pub IsImageSince : FileHistory → ℕ → List ℕ → Type 0
IsImageSince history t c = (k : ℕ) × (t ≤ k) × (k ≤ moment_of history)
    × IsImageAfter history.first (reverse (take k history.calls)) c
