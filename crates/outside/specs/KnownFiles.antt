-- What files hold, and what was asked and read of them.
use Rattle.std.specs.Prelude.{◌≡◌, ◌<◌, ◌≤◌, ℕ, List, [], ◌∷◌, ◌++◌, take, drop, length}
use Rattle.std.specs.Prelude.{Option, unwrap_or, Result, Ok, Err}
use Rattle.outside.specs.declared.files.FileErr.{FileErr}
use Rattle.outside.specs.declared.files.FileErr.TheVariants.{Fault, Memory}

-- the bytes of each file that is held, the names that were asked for in order,
-- and what is left to read of the file that was begun last
pub record KnownFiles : Type 0 where
  pub holds : List ℕ → Option (List ℕ)
  pub asked : List (List ℕ)
  pub left : List ℕ

-- the bytes of a file; a name that isn't held counts as an empty file
abbrev pub file_of : KnownFiles → List ℕ → List ℕ
file_of files name = unwrap_or (files.holds name) []

-- the same files after more names were asked for
abbrev pub files_after_asking : List (List ℕ) → List ℕ → KnownFiles → KnownFiles
files_after_asking names left files =
    record { holds = files.holds; asked = files.asked ++ names; left = left }

-- after a file was begun, or failed to be: a call that had no memory asked for none
abbrev pub files_after_begin : List ℕ → Result (Unit {0}) FileErr → KnownFiles → KnownFiles
files_after_begin name (Ok _) files = files_after_asking (name ∷ []) (file_of files name) files
files_after_begin name (Err Fault) files = files_after_asking (name ∷ []) [] files
files_after_begin name (Err Memory) files = record files { left = [] }

-- after so many bytes were read; a call that failed leaves all
abbrev pub files_after_read : Result ℕ FileErr → KnownFiles → KnownFiles
files_after_read (Ok count) files = record files { left = drop count files.left }
files_after_read (Err _) files = files

-- so many bytes at the start of a piece are the next ones of the file
abbrev pub GivesPrefix : ℕ → List ℕ → KnownFiles → Type 0
GivesPrefix count piece files = take count piece ≡ take count files.left

-- so many bytes are no more than are left, and some where there are any and room for them
pub record MakesProgress (count room : ℕ) (files : KnownFiles) : Type 0 where
  pub within : count ≤ length files.left
  pub some : 0 < length files.left → 0 < room → 0 < count
