-- A list in order of time, where elements of equal time keep their order.
use Rattle.std.specs.Prelude.{◌≡◌, ℕ, ◌<◌, ◌≤◌, nat_le, List, [], ◌∷◌, if◌then◌else◌}
use Rattle.std.specs.List.{AllByRecursion}
use Rattle.row_order.specs.Stretches.{rows_at}

-- each element is at n or later
abbrev pub AllFrom : {X : Type 0} → (X → ℕ) → ℕ → List X → Type 0
AllFrom time n xs = AllByRecursion (λ x. n ≤ time x) xs

-- each element is below n
abbrev pub AllBelow : {X : Type 0} → (X → ℕ) → ℕ → List X → Type 0
AllBelow time n xs = AllByRecursion (λ x. time x < n) xs

-- no element is earlier than one before it
abbrev pub IsInOrder : {X : Type 0} → (X → ℕ) → List X → Type 0
IsInOrder time [] = Unit {0}
IsInOrder time (x ∷ xs) = AllFrom time (time x) xs × IsInOrder time xs

-- ys is in order, and has at each time what xs has there, in the same order
pub record IsStableOrder {X : Type 0} (time : X → ℕ) (xs ys : List X) : Type 0 where
  pub ordered : IsInOrder time ys
  pub same : (t : ℕ) → rows_at time t ys ≡ rows_at time t xs

-- ys with x before its first element that is not earlier
abbrev pub insertion : {X : Type 0} → (X → ℕ) → X → List X → List X
insertion time x [] = x ∷ []
insertion time x (y ∷ ys) =
    if nat_le (time x) (time y) then x ∷ y ∷ ys else y ∷ insertion time x ys

-- the list in order of time
abbrev pub in_order : {X : Type 0} → (X → ℕ) → List X → List X
in_order time [] = []
in_order time (x ∷ xs) = insertion time x (in_order time xs)
