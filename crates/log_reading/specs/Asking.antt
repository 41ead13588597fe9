-- Which files were asked for, in their order, and how a reading of several ends.
use Rattle.std.specs.Prelude.{◌≡◌, ℕ, List, [], ◌∷◌, ◌++◌, Option, option_map, Result, Ok, Err}
use Rattle.outside.specs.Faults.{HasRisen}
use Rattle.outside.specs.KnownFiles.{KnownFiles, files_after_asking}
use Rattle.log_reading.specs.declared.named_read_err.NamedReadErr.{NamedReadErr}
use Rattle.log_reading.specs.declared.named_read_err.NamedReadErr.TheVariants.{Fault, Memory}

-- these files were asked for, in order, and what is held stays
pub record Asks (names : List (List ℕ)) (old new : Option KnownFiles) : Type 0 where
  pub left : List ℕ
  pub known : new ≡ option_map (files_after_asking names left) old

-- the first of these files, perhaps none or all, were asked for, in order
pub record AsksPrefixOf (names : List (List ℕ)) (old new : Option KnownFiles) : Type 0 where
  pub front : List (List ℕ)
  pub rest : List (List ℕ)
  pub whole : front ++ rest ≡ names
  pub asks : Asks front old new

-- these files were asked for up to one of this name
pub record AsksUpTo (name : List ℕ) (names : List (List ℕ)) (old new : Option KnownFiles) : Type 0 where
  pub earlier : List (List ℕ)
  pub later : List (List ℕ)
  pub among : earlier ++ name ∷ later ≡ names
  pub asks : Asks (earlier ++ name ∷ []) old new

-- these files were asked for up to the one at fault, or some first ones where memory ran out
abbrev pub AsksOnErr : List (List ℕ) → NamedReadErr → Option KnownFiles → Option KnownFiles → Type 0
AsksOnErr names (Fault name) old new = AsksUpTo name names old new
AsksOnErr names Memory old new = AsksPrefixOf names old new

-- all of these files were asked for with an answer
abbrev pub AsksUntil : {A : Type 0} → List (List ℕ) → Result A NamedReadErr → Option KnownFiles → Option KnownFiles → Type 0
AsksUntil names (Ok _) old new = Asks names old new
AsksUntil names (Err error) old new = AsksOnErr names error old new

-- a fault is answered only where the count of faults has risen
abbrev pub IsCaused : {A : Type 0} → Result A NamedReadErr → ℕ → ℕ → Type 0
IsCaused (Ok _) old new = Unit {0}
IsCaused (Err (Fault name)) old new = HasRisen old new
IsCaused (Err Memory) old new = Unit {0}

-- all of these files but the last ones were asked for, in order
pub record AsksAllBut (rest names : List (List ℕ)) (old new : Option KnownFiles) : Type 0 where
  pub done : List (List ℕ)
  pub whole : done ++ rest ≡ names
  pub asks : Asks done old new
