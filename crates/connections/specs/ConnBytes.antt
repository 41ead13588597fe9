-- What is read from a connection, and what is written on it.
use Rattle.std.specs.Prelude.{◌≡◌, ◌<◌, ◌≤◌, ℕ, List, ◌++◌, take, drop, length, Result, Ok, Err}
use Rattle.connections.specs.declared.conn.ConnErr.{ConnErr}

-- what is left after so many bytes were read; a call that failed leaves all
abbrev pub left_after_read : Result ℕ ConnErr → List ℕ → List ℕ
left_after_read (Ok count) left = drop count left
left_after_read (Err _) left = left

-- so many bytes at the start of a piece are the next ones of what is left; no more than are left,
-- and some where there are any and room for them
pub record IsNextPiece (count room : ℕ) (piece left : List ℕ) : Type 0 where
  pub same : take count piece ≡ take count left
  pub within : count ≤ length left
  pub some : 0 < length left → 0 < room → 0 < count

-- what was written, with so many of the bytes of a call behind it; a call that failed wrote none
abbrev pub bytes_after_write : List ℕ → Result ℕ ConnErr → List ℕ → List ℕ
bytes_after_write bytes (Ok count) before = before ++ take count bytes
bytes_after_write bytes (Err _) before = before
