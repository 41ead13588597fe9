-- The rows that a join gives for one left row.
use Rattle.std.specs.Prelude.{ℕ, Bool, if◌then◌else◌, List, [], ◌∷◌, ◌++◌, replicate}
use Rattle.event_value.specs.declared.record.Stamped.{Stamped}
use Rattle.event_value.specs.declared.value.Value.TheVariants.{Null}

-- a left and a right row as one: the values of the left one, then those of the right one
abbrev pub joined : ℕ → Stamped → Stamped → Stamped
joined t a b = record { time = t; values = a.values ++ b.values }

-- a left row alone, with NULL in each of the right columns
abbrev pub unmatched : ℕ → ℕ → Stamped → Stamped
unmatched t width a = record { time = t; values = a.values ++ replicate width Null }

-- the rows with the matches of a left row; where there are none, the left row alone if it is to come
abbrev pub or_alone : Bool → Stamped → List Stamped → List Stamped
or_alone outer alone [] = if outer then alone ∷ [] else []
or_alone outer alone (row ∷ rows) = row ∷ rows
