-- What every operator keeps to.
use Rattle.std.specs.Prelude.{◌≡◌, ℕ, ◌-◌, ◌≤◌, List, ◌++◌, Option, Some, None}
use Rattle.event_value.specs.declared.record.Stamped.{Stamped}
use Rattle.stream_op.specs.Rows.{AreInOrder, AreNext, AreTaken, below, between, from_on}

-- a meaning: from the whole lists of two inputs to a whole list
abbrev pub Meaning : Type 0
Meaning = List Stamped → List Stamped → List Stamped

-- rows at x or later depend on input rows at x less the reach or later alone
abbrev pub IsWithinReach : Option ℕ → Meaning → Type 0
IsWithinReach None op = Unit {0}
IsWithinReach (Some n) op = (left right : List Stamped) (x : ℕ) → AreInOrder left → AreInOrder right
    → from_on x (op left right) ≡ from_on x (op (from_on (x - n) left) (from_on (x - n) right))

-- the laws of a meaning
pub record StreamLaws {Spec : Type 0} (fits : Spec → Type 0) (op : Spec → Meaning) (reach : Spec → Option ℕ) : Type 0 where
  -- rows below x depend on input rows below x alone
  pub past_only : (spec : Spec) (left right : List Stamped) (x : ℕ) → fits spec
      → AreInOrder left → AreInOrder right
      → below x (op spec left right) ≡ below x (op spec (below x left) (below x right))
  -- the rows are in order of time
  pub in_order : (spec : Spec) (left right : List Stamped) → fits spec
      → AreInOrder left → AreInOrder right → AreInOrder (op spec left right)
  -- nothing further back than the reach matters
  pub within_reach : (spec : Spec) → fits spec → IsWithinReach (reach spec) (op spec)

-- what a value stands for: the rows of both inputs that it was given, and its last moment
abbrev pub Standing : Type 0 → Type 0 → Type 1
Standing O Spec = O → Spec → List Stamped → List Stamped → ℕ → Type 0

-- a value stands only for what fits, and for rows in order below its moment
pub record StandsOnly {O Spec : Type 0} (fits : Spec → Type 0) (stands : Standing O Spec) : Type 0 where
  pub fitting : (o : O) (spec : Spec) (left right : List Stamped) (w : ℕ)
      → stands o spec left right w → fits spec
  pub taken : (o : O) (spec : Spec) (left right : List Stamped) (w : ℕ)
      → stands o spec left right w → AreTaken w left right

-- For whatever lists and moment the old value stands: with the new rows, which come next, the
-- answer is what the meaning has from the last moment to below the new one, and the new value
-- stands for the longer lists.
abbrev pub Advances : {O Spec : Type 0} → (Spec → Meaning) → Standing O Spec
    → O → List Stamped → List Stamped → ℕ → O → List Stamped → Type 0
Advances {O} {Spec} op stands old new_left new_right upto new rows =
    (spec : Spec) (left right : List Stamped) (w : ℕ) → stands old spec left right w → w ≤ upto
    → AreNext w upto new_left → AreNext w upto new_right
    → (rows ≡ between w upto (op spec (left ++ new_left) (right ++ new_right)))
    × stands new spec (left ++ new_left) (right ++ new_right) upto
