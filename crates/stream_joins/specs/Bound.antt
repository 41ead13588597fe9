-- The rows of a join of two streams within a bound on how far apart their rows are.
use Rattle.std.specs.Prelude.{ℕ, suc, max, ℤ, pos, negsuc, ◌-ℤ◌, int_le, ◌+◌, Bool, ◌&&◌, List, filter, map}
use Rattle.std.specs.List.{flat_map}
use Rattle.event_value.specs.declared.record.Stamped.{Stamped}
use Rattle.event_value.specs.declared.value.Value.{Value}
use Rattle.row_order.specs.InOrder.{in_order}
use Rattle.stream_joins.specs.Joined.{joined, or_alone, unmatched}
use Rattle.stream_op.specs.Rows.{time_of}

-- what a join is of
pub record Bound : Type 0 where
  -- whether the values of a left and of a right row pass, at the time of their row
  pub pairs : List Value → List Value → ℕ → Bool
  -- how far behind the left row the right one is at least, and at most
  pub low : ℤ
  pub high : ℤ
  -- whether a left row without a match comes alone
  pub outer : Bool
  -- the number of right columns
  pub width : ℕ

-- how far the time u is behind the time t
abbrev pub distance : ℕ → ℕ → ℤ
distance t u = pos u -ℤ pos t

-- whether a row is at least `low` and at most `high` behind a time
abbrev pub is_within : ℤ → ℤ → ℕ → Stamped → Bool
is_within low high t b = int_le low (distance t b.time) && int_le (distance t b.time) high

-- whether two rows are no further apart than the bound says
abbrev pub is_near : Bound → Stamped → Stamped → Bool
is_near bound a b = is_within bound.low bound.high a.time b

-- the time of the row of two rows: the later of theirs
abbrev pub later : Stamped → Stamped → ℕ
later a b = max a.time b.time

-- whether two rows within the bound pass
abbrev pub is_pair : Bound → Stamped → Stamped → Bool
is_pair bound a b = bound.pairs a.values b.values (later a b)

-- whether two rows match
abbrev pub is_match : Bound → Stamped → Stamped → Bool
is_match bound a b = is_near bound a b && is_pair bound a b

-- the row of two rows
abbrev pub pair_row : Stamped → Stamped → Stamped
pair_row a b = joined (later a b) a b

-- a length where it is above 0, and else 0; and how far it is below 0
abbrev pub positive_part : ℤ → ℕ
positive_part (pos n) = n
positive_part (negsuc n) = 0

abbrev pub negative_part : ℤ → ℕ
negative_part (pos n) = 0
negative_part (negsuc n) = suc n

-- the row of a left row without a match, which comes when no match can come any more
abbrev pub alone : Bound → Stamped → Stamped
alone bound a = unmatched (a.time + positive_part bound.high) bound.width a

-- the rows of one left row, in the order of the right rows
abbrev pub rows_of : Bound → List Stamped → Stamped → List Stamped
rows_of bound right a =
    or_alone bound.outer (alone bound a) (map (pair_row a) (filter (is_match bound a) right))

-- all rows in order of time, of equal times by the places of the left and then of the right rows
abbrev pub bound_join : Bound → List Stamped → List Stamped → List Stamped
bound_join bound left right = in_order time_of (flat_map (rows_of bound right) left)

-- how far back of a row its input may lie
abbrev pub bound_reach : Bound → ℕ
bound_reach bound = positive_part bound.high + negative_part bound.low
