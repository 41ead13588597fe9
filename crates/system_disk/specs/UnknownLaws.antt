-- Of a file of which nothing is known.
use Rattle.std.specs.Prelude.{◌≡◌, ℕ, List, Some, None}

-- no content is known
pub nothing_known : (c : List ℕ) → None ≡ Some c → ⊥
nothing_known c known = cc
