-- The moments that a clock has given.
use Rattle.std.specs.Prelude.{◌≡◌, ◌⊎◌, ℕ, List, [], ◌∷◌, ◌++◌, Option, None, option_map}

-- with a moment behind those that were given before
abbrev pub given_after : ℕ → List ℕ → List ℕ
given_after moment before = before ++ moment ∷ []

-- a clock that tells after a call what it gave told so before, and this moment has come behind
abbrev pub GivesNext : ℕ → Option (List ℕ) → Option (List ℕ) → Type 0
GivesNext moment old new = (new ≡ option_map (given_after moment) old) ⊎ (new ≡ None)
