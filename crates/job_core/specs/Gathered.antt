-- The rows that were taken out of the lanes, by stream; for private clauses.
use Rattle.std.specs.Prelude.{ℕ, List, [], ◌∷◌, ◌++◌, take, drop}
use Rattle.event_value.specs.declared.record.Stamped.{Stamped}
use Rattle.row_order.specs.InOrder.{in_order}
use Rattle.stream_op.specs.Rows.{time_of}

-- the lists behind each other
abbrev pub joined : {X : Type 0} → List (List X) → List X
joined [] = []
joined (xs ∷ lists) = xs ++ joined lists

-- the first list, if there is one
abbrev pub first_list : List (List Stamped) → List Stamped
first_list [] = []
first_list (rows ∷ lists) = rows

-- the rows of each stream, which has so many lanes, in order of time
abbrev pub gathered : List ℕ → List (List Stamped) → List (List Stamped)
gathered [] lists = []
gathered (count ∷ counts) lists = in_order time_of (joined (take count lists)) ∷ gathered counts (drop count lists)
