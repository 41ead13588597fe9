-- What holds of lists in order of time.
use Rattle.std.specs.Prelude.{◌≡◌, ℕ, ◌≤◌, List, ◌++◌}
use Rattle.row_order.specs.InOrder.{IsInOrder, IsStableOrder}
use Rattle.row_order.specs.Stretches.{rows_below, rows_from, rows_between}

-- ys is a stable order of xs, and there is no other
pub record IsOnlyStableOrder {X : Type 0} (time : X → ℕ) (xs ys : List X) : Type 0 where
  pub stable : IsStableOrder time xs ys
  pub only : (zs : List X) → IsStableOrder time xs zs → zs ≡ ys

-- the stretches of a list in order are parts of it that stand behind each other
pub record StretchesJoin {X : Type 0} (time : X → ℕ) (xs : List X) : Type 0 where
  pub whole : (w : ℕ) → IsInOrder time xs → rows_below time w xs ++ rows_from time w xs ≡ xs
  pub below : (v w : ℕ) → v ≤ w → IsInOrder time xs
      → rows_below time v xs ++ rows_between time v w xs ≡ rows_below time w xs
