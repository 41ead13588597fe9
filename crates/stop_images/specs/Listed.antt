-- Lists of images, for tests.
use Rattle.std.specs.Prelude.{◌≡◌, ◌<◌, ◌≤◌, ◌⊎◌, ℕ, List, ◌∷◌, ◌++◌, All, Contains}
use Rattle.block_disk.specs.declared.call.Call.{Call}
use Rattle.block_disk.specs.Stops.{TornWrite}
use Rattle.block_disk.specs.Images.{FileHistory, file_after, IsImageAfter}

-- a file as it was first, and the calls since, the oldest first
abbrev pub history_of : List ℕ → List Call → FileHistory
history_of first calls = record { first = first; calls = calls }

-- behind a list files were added, of each of which P holds
pub record AddsFiles (P : List ℕ → Type 0) (old new : List (List ℕ)) : Type 0 where
  pub more : List (List ℕ)
  pub list : new ≡ old ++ more
  pub each : All P more

-- a file is one of these with the range of a write torn
abbrev pub IsTornOf : ℕ → ℕ → List (List ℕ) → List ℕ → Type 0
IsTornOf at count files c = (d : List ℕ) × Contains files d × TornWrite at count d c

-- from images by some calls, the newest first, and the file as it reads after one call more: images
-- by the calls with that one, and that file among them
pub record ListsNext (images : List (List ℕ)) (call : Call) (file : List ℕ) (next : List (List ℕ))
    : Type 0 where
  pub as_read : Contains next file
  pub each : (first : List ℕ) (calls : List Call) → All (IsImageAfter first calls) images
      → file ≡ file_after first (call ∷ calls) → All (IsImageAfter first (call ∷ calls)) next

-- the images of a moment were added behind a list, where it isn't before a first one
abbrev pub AddsSince : ℕ → ℕ → List (List ℕ) → List (List ℕ) → List (List ℕ) → Type 0
AddsSince since moment images old new =
    ((since ≤ moment) × (new ≡ old ++ images)) ⊎ ((moment < since) × (new ≡ old))
