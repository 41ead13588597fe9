-- The rows of a join of a stream with a reference.
use Rattle.std.specs.Prelude.{ℕ, Bool, List, filter, map}
use Rattle.std.specs.List.{flat_map}
use Rattle.event_value.specs.declared.record.Stamped.{Stamped}
use Rattle.event_value.specs.declared.value.Value.{Value}
use Rattle.stream_joins.specs.Joined.{joined, or_alone, unmatched}
use Rattle.stream_joins.specs.Snapshots.{Snapshots, rows_in_force}

-- what a join is of
pub record Lookup : Type 0 where
  -- whether the values of a row and of a row of the reference pass, at the time of the former
  pub pairs : List Value → List Value → ℕ → Bool
  pub snapshots : Snapshots
  -- whether a row without a match comes alone
  pub outer : Bool
  -- the number of the reference's columns
  pub width : ℕ

-- whether a row matches one of the reference
abbrev pub is_found : Lookup → Stamped → Stamped → Bool
is_found lookup a b = lookup.pairs a.values b.values a.time

-- the rows of one left row, in the order of the reference, all at its time
abbrev pub looked_up : Lookup → Stamped → List Stamped
looked_up lookup a =
    or_alone lookup.outer (unmatched a.time lookup.width a)
    (map (joined a.time a) (filter (is_found lookup a) (rows_in_force lookup.snapshots a.time)))

-- the rows of all left rows, in their order
abbrev pub reference_join : Lookup → List Stamped → List Stamped → List Stamped
reference_join lookup left right = flat_map (looked_up lookup) left
