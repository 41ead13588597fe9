-- The connections that a link hands out and takes back.
use Rattle.std.specs.Prelude.{◌≡◌, ◌<◌, ℕ, List, [], ◌∷◌, ◌++◌, drop, length, slice_get}
use Rattle.std.specs.Prelude.{Option, Some, None, option_map, Result, Ok, Err}
use Rattle.connections.specs.declared.link.LinkErr.{LinkErr}

-- what is still to come after one was taken; a call that failed takes none
abbrev pub coming_after_accept : {C A : Type 0} → Result C LinkErr → List A → List A
coming_after_accept (Ok _) coming = drop 1 coming
coming_after_accept (Err _) coming = coming

-- a connection has the bytes of the first one that was to come left, and nothing written on it
pub record HandsOutFirst (left written : Option (List ℕ)) (coming : List (List ℕ)) : Type 0 where
  pub some : 0 < length coming
  pub first : left ≡ slice_get coming 0
  pub fresh : written ≡ Some []

-- the bytes written on one more connection stand behind those of the others
abbrev pub served_after : List ℕ → List (List ℕ) → List (List ℕ)
served_after bytes served = served ++ bytes ∷ []

-- one more connection was served; what was written on it is known where it tells that
abbrev pub ServesOne : Option (List ℕ) → Option (List (List ℕ)) → Option (List (List ℕ)) → Type 0
ServesOne (Some bytes) old new = new ≡ option_map (served_after bytes) old
ServesOne None old new = (bytes : List ℕ) × (new ≡ option_map (served_after bytes) old)
