-- Files in memory.
use Rattle.std.specs.Prelude.{◌≡◌, ◌⊎◌, ℕ, List, [], ◌∷◌, Option, Some, None, if◌then◌else◌, nat_eq}
use Rattle.std.specs.Cmp.Lexicographic.{pointwise}
use Rattle.outside.specs.FailingCalls.{FailingCalls, IsDue, fresh_calls}
use Rattle.outside.specs.KnownFiles.{KnownFiles}
use Rattle.outside.specs.declared.held_file.HeldFile.{HeldFile}

-- what is held, which names were asked for, what is left to read, and which calls fail
pub record FilesInMemory : Type 0 where
  pub held : List HeldFile
  pub asked : List (List ℕ)
  pub left : List ℕ
  pub failing : FailingCalls

-- the bytes of the first file of a name
abbrev pub held_in : List HeldFile → List ℕ → Option (List ℕ)
held_in [] name = None
held_in (file ∷ files) name =
    if pointwise nat_eq file.name name then Some file.bytes else held_in files name

-- before the first call
abbrev pub fresh_files : List HeldFile → List ℕ → FilesInMemory
fresh_files held numbers =
    record { held = held; asked = []; left = []; failing = fresh_calls numbers }

-- all that files can make known
abbrev pub known_of : FilesInMemory → Option KnownFiles
known_of files =
    Some (record { holds = held_in files.held; asked = files.asked; left = files.left })

-- a name that isn't held, or a call that is to fail
abbrev pub HasCause : FilesInMemory → List ℕ → Type 0
HasCause files name = (held_in files.held name ≡ None) ⊎ IsDue files.failing
