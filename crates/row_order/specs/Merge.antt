-- Two lists in order of time as one, of equal times the first list's elements first.
use Rattle.std.specs.Prelude.{ℕ, nat_le, List, [], ◌∷◌, if◌then◌else◌}

-- the elements of ys that are earlier than x, then x, and then the others with what follows x
abbrev pub merge_at : {X : Type 0} → (X → ℕ) → X → (List X → List X) → List X → List X
merge_at time x rest [] = x ∷ rest []
merge_at time x rest (y ∷ ys) =
    if nat_le (time x) (time y) then x ∷ rest (y ∷ ys) else y ∷ merge_at time x rest ys

-- both lists as one
abbrev pub merge : {X : Type 0} → (X → ℕ) → List X → List X → List X
merge time [] ys = ys
merge time (x ∷ xs) ys = merge_at time x (merge time xs) ys
