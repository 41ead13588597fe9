-- What a sink has taken.
use Rattle.std.specs.Prelude.{◌≡◌, ℕ, List, ◌++◌, take, Option, option_map, Result, Ok, Err}
use Rattle.outside.specs.declared.sink.SinkErr.{SinkErr}

-- what was written, with so many of the bytes of a call behind it; a call that failed wrote none
abbrev pub bytes_after_write : List ℕ → Result ℕ SinkErr → List ℕ → List ℕ
bytes_after_write bytes (Ok count) before = before ++ take count bytes
bytes_after_write bytes (Err _) before = before

-- the bytes stand behind what was written before, where that is known
abbrev pub bytes_behind : Option (List ℕ) → List ℕ → Option (List ℕ)
bytes_behind old bytes = option_map (λ before. before ++ bytes) old

-- all the bytes but this rest were written, in order
pub record WritesAllBut (rest bytes : List ℕ) (old new : Option (List ℕ)) : Type 0 where
  pub prefix : List ℕ
  pub whole : prefix ++ rest ≡ bytes
  pub written : new ≡ bytes_behind old prefix

-- some prefix of the bytes was written
abbrev pub WritesPrefix : List ℕ → Option (List ℕ) → Option (List ℕ) → Type 0
WritesPrefix bytes old new = (rest : List ℕ) × WritesAllBut rest bytes old new
