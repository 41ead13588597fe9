-- The meaning of a sliding window: what the last rows are, at each moment at which they change.
use Rattle.std.specs.Prelude.{ℕ, ◌+◌, Bool, ◌&&◌, nat_le, nat_lt, int_lt, pos, unsigned_abs, List, [], ◌∷◌, filter, length, map}
use Rattle.std.specs.List.{flat_map}
use Rattle.std.specs.Ordering.{nat_cmp}
use Rattle.event_value.specs.declared.record.Stamped.{Stamped}
use Rattle.event_value.specs.declared.value.Value.{Value}
use Rattle.row_groups.specs.Distinct.{distinct}
use Rattle.window_flow.specs.Parts.{Parting, aggregated, parted}
use Rattle.window_flow.specs.declared.sliding.SlidingSpec.{SlidingSpec}

-- the size is above 0
abbrev pub sliding_fits : SlidingSpec → Bool
sliding_fits spec = int_lt (pos 0) spec.size

-- its ticks
abbrev pub size_of : SlidingSpec → ℕ
size_of spec = unsigned_abs spec.size

-- a row enters at its time, and leaves at its time plus the size
abbrev pub moments_of : ℕ → Stamped → List ℕ
moments_of size row = row.time ∷ (row.time + size) ∷ []

-- the moments at which rows enter or leave, in order, each once
abbrev pub moments : ℕ → List Stamped → List ℕ
moments size rows = distinct nat_cmp (flat_map (moments_of size) rows)

-- x - size < time ≤ x
abbrev pub is_held : ℕ → ℕ → Stamped → Bool
is_held size x row = nat_le row.time x && nat_lt x (row.time + size)

-- the rows that the window holds at x
abbrev pub content : ℕ → List Stamped → ℕ → List Stamped
content size rows x = filter (is_held size x) rows

-- it holds some
abbrev pub is_filled : ℕ → List Stamped → ℕ → Bool
is_filled size rows x = nat_lt 0 (length (content size rows x))

-- the row at x
abbrev pub slide_at : SlidingSpec → List Value → List Stamped → ℕ → Stamped
slide_at spec key rows x = aggregated x spec.aggs key (content (size_of spec) rows x)

-- the rows at those of some moments at which the window holds some
abbrev pub slides_at : SlidingSpec → List Value → List Stamped → List ℕ → List Stamped
slides_at spec key rows xs = map (slide_at spec key rows) (filter (is_filled (size_of spec) rows) xs)

-- the rows of a key
abbrev pub slides : SlidingSpec → List Value → List Stamped → List Stamped
slides spec key rows = slides_at spec key rows (moments (size_of spec) rows)

-- each key by itself
abbrev pub sliding_parting : SlidingSpec → Parting
sliding_parting spec = record { columns = spec.keys; rows = slides spec }

-- the rows of a sliding window, in order of time and key
abbrev pub sliding : SlidingSpec → List Stamped → List Stamped
sliding spec rows = parted (sliding_parting spec) rows
