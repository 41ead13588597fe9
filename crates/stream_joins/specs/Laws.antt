-- What the definitions of the joins say, in other words.
use Rattle.std.specs.Prelude.{◌≡◌, ℕ, ◌<◌, ◌≤◌, List, length, get_or, Option, Some, None}
use Rattle.std.specs.List.{All, flat_map}
use Rattle.event_value.specs.declared.record.Stamped.{Stamped}
use Rattle.row_order.specs.Stretches.{rows_at}
use Rattle.stream_joins.specs.Bound.{Bound, rows_of}
use Rattle.stream_op.specs.Rows.{AreInOrder, time_of}

-- rows in order of time, those of one time by the places of their left rows, and of one left row as
-- they are listed for it, by the places of the right rows
pub record AreByPlaces (bound : Bound) (left right rows : List Stamped) : Type 0 where
  pub ordered : AreInOrder rows
  pub at_each_time : (t : ℕ) → rows_at time_of t rows
      ≡ flat_map (λ a. rows_at time_of t (rows_of bound right a)) left

-- a place of the last moment at or before t; none where all moments are behind t
abbrev pub IsLastBefore : List ℕ → ℕ → Option ℕ → Type 0
IsLastBefore effective t None = All (λ moment. t < moment) effective
IsLastBefore effective t (Some place) =
    (place < length effective) × (get_or effective place 0 ≤ t)
    × ((later : ℕ) → place < later → later < length effective → t < get_or effective later 0)
