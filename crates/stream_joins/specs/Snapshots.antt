-- The snapshots of a reference, and which of them is in force at a time.
use Rattle.std.specs.Prelude.{◌≡◌, ℕ, suc, ◌<◌, ◌^◌, Bool, nat_le, if◌then◌else◌, List, [], ◌∷◌, length, get_or, Option, Some, None}
use Rattle.event_value.specs.declared.record.Stamped.{Stamped}
use Rattle.row_order.specs.InOrder.{IsInOrder}

-- the snapshots of a reference: from which moment on each is in force, and its rows
pub record Snapshots : Type 0 where
  pub effective : List ℕ
  pub rows : List (List Stamped)

-- no moment is below one before it
abbrev pub Ascend : List ℕ → Type 0
Ascend moments = IsInOrder (λ moment. moment) moments

-- one list of rows for each moment, and fewer than 2^32 of them
pub record AreSnapshots (effective : List ℕ) (rows : List (List Stamped)) : Type 0 where
  pub ascending : Ascend effective
  pub paired : length effective ≡ length rows
  pub few : length effective < 2 ^ 32

-- the place in a list of an element, with the place of one behind it, if there is one
abbrev pub place_with : Bool → Option ℕ → Option ℕ
place_with here None = if here then Some 0 else None
place_with here (Some place) = Some (suc place)

-- the place of the last element that passes a test
abbrev pub last_place : {X : Type 0} → (X → Bool) → List X → Option ℕ
last_place test [] = None
last_place test (x ∷ xs) = place_with (test x) (last_place test xs)

-- the last snapshot that is effective at or before t
abbrev pub in_force : List ℕ → ℕ → Option ℕ
in_force effective t = last_place (λ moment. nat_le moment t) effective

-- the list at a place, and none where there is no place
abbrev pub at_place : {X : Type 0} → List (List X) → Option ℕ → List X
at_place lists None = []
at_place lists (Some place) = get_or lists place []

-- the rows of the snapshot in force at t; none before the first
abbrev pub rows_in_force : Snapshots → ℕ → List Stamped
rows_in_force snapshots t = at_place snapshots.rows (in_force snapshots.effective t)
