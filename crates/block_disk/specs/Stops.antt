-- What the calls of a disk do to its file, and what a stop may leave of it between two syncs.
-- A file is the list of its bytes; an image is a file that a stop may leave.
use Rattle.std.specs.Prelude.{◌≡◌, ◌≤◌, ◌⊎◌, ◌+◌, ℕ, max, List, ◌++◌, length, take, drop}
use Rattle.std.specs.Prelude.{Option, Some, None}

-- a file with these bytes put at a place, over what is there and past the end
abbrev pub put : ℕ → List ℕ → List ℕ → List ℕ
put at bytes file = take at file ++ bytes ++ drop (at + length bytes) file

-- after a write of so many bytes at a place that may be cut short: any bytes in its range and past
-- the old end, any length from the old to the new, all else as before
pub record TornWrite (at count : ℕ) (old new : List ℕ) : Type 0 where
  pub before : take at new ≡ take at old
  pub behind : drop (at + count) new ≡ drop (at + count) old
  pub no_shorter : length old ≤ length new
  pub no_longer : length new ≤ max (length old) (at + count)

-- so it is where the file is known, and what is known stays known
abbrev pub TornWhereKnown : ℕ → ℕ → Option (List ℕ) → Option (List ℕ) → Type 0
TornWhereKnown at count None None = Unit {0}
TornWhereKnown at count (Some old) (Some new) = TornWrite at count old new
TornWhereKnown at count None (Some new) = ⊥
TornWhereKnown at count (Some old) None = ⊥

-- each image after a step comes from one before it
abbrev pub Follows : (List ℕ → List ℕ → Type 0) → (List ℕ → Type 0) → (List ℕ → Type 0) → Type 0
Follows step old new = (c : List ℕ) → new c → (d : List ℕ) × old d × step d c

-- no image that there was not before
abbrev pub NoFurtherImage : (List ℕ → Type 0) → (List ℕ → Type 0) → Type 0
NoFurtherImage old new = (c : List ℕ) → new c → old c

-- the same images as before
pub record SameImages (old new : List ℕ → Type 0) : Type 0 where
  pub no_further : NoFurtherImage old new
  pub no_fewer : NoFurtherImage new old

-- no image but the file as it reads, where that is known
abbrev pub OnlyAsRead : Option (List ℕ) → (List ℕ → Type 0) → Type 0
OnlyAsRead content images = (c : List ℕ) → images c → content ≡ Some c

-- time goes on: what was left since a moment stays so, and all else is an image of now
pub record Elapses (before now : ℕ) (past since : ℕ → List ℕ → Type 0) (images : List ℕ → Type 0)
    : Type 0 where
  pub later : before ≤ now
  pub keeps : (t : ℕ) (c : List ℕ) → t ≤ before → past t c → since t c
  pub nothing_else : (t : ℕ) (c : List ℕ) → t ≤ before → since t c → past t c ⊎ images c
