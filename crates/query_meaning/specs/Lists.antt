-- Lists of rows, each for itself in order, cut below a time or between two times, or put behind each other.
use Rattle.std.specs.Prelude.{◌≡◌, ◌≤◌, ℕ, List, [], ◌∷◌, ◌++◌, length, map}
use Rattle.std.specs.List.{AllByRecursion}
use Rattle.event_value.specs.declared.record.Stamped.{Stamped}
use Rattle.stream_op.specs.Rows.{AreInOrder, below, between}

-- each list is in order of time
abbrev pub AllInOrder : List (List Stamped) → Type 0
AllInOrder lists = AllByRecursion AreInOrder lists

-- of each list the rows below u
abbrev pub all_below : ℕ → List (List Stamped) → List (List Stamped)
all_below u lists = map (below u) lists

-- of each list the rows at w or later, and below u
abbrev pub all_between : ℕ → ℕ → List (List Stamped) → List (List Stamped)
all_between w u lists = map (between w u) lists

-- the lists of the one, each with that of the other behind it
abbrev pub behind_each : List (List Stamped) → List (List Stamped) → List (List Stamped)
behind_each [] others = []
behind_each (rows ∷ lists) [] = []
behind_each (rows ∷ lists) (more ∷ others) = (rows ++ more) ∷ behind_each lists others

-- each list has at most as many rows as this one
abbrev pub AreNoLonger : List (List Stamped) → List Stamped → Type 0
AreNoLonger lists longest = AllByRecursion (λ (rows : List Stamped). length rows ≤ length longest) lists

-- lists in order of time that have, from w to below u, the rows that the streams have there
pub record AreNew (w u : ℕ) (streams given : List (List Stamped)) : Type 0 where
  pub in_order : AllInOrder given
  pub rows_are : all_between w u given ≡ all_between w u streams
