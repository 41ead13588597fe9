-- What of a list is at a time, below it, from it on, and between two times.
use Rattle.std.specs.Prelude.{ℕ, ◌&&◌, ◌==◌, nat_lt, nat_le, List, filter}

-- the elements at t
abbrev pub rows_at : {X : Type 0} → (X → ℕ) → ℕ → List X → List X
rows_at time t xs = filter (λ x. time x == t) xs

-- the elements below w
abbrev pub rows_below : {X : Type 0} → (X → ℕ) → ℕ → List X → List X
rows_below time w xs = filter (λ x. nat_lt (time x) w) xs

-- the elements at v or later
abbrev pub rows_from : {X : Type 0} → (X → ℕ) → ℕ → List X → List X
rows_from time v xs = filter (λ x. nat_le v (time x)) xs

-- the elements at v or later, and below w
abbrev pub rows_between : {X : Type 0} → (X → ℕ) → ℕ → ℕ → List X → List X
rows_between time v w xs = filter (λ x. nat_le v (time x) && nat_lt (time x) w) xs
