-- The meaning of a grid: windows of one size that end at the multiples of a hop.
use Rattle.std.specs.Prelude.{ℕ, zero, suc, ◌+◌, ◌-◌, ◌*◌, ◌/◌, Bool, ◌&&◌, nat_lt, nat_le, int_lt, pos, unsigned_abs, List, [], ◌∷◌, ◌++◌, filter}
use Rattle.event_value.specs.declared.record.Stamped.{Stamped}
use Rattle.window_grid.specs.Windows.{Windows, windowed}
use Rattle.window_grid.specs.declared.grid.GridSpec.{GridSpec}

-- the size and the hop are above 0
abbrev pub grid_fits : GridSpec → Bool
grid_fits spec = int_lt (pos 0) spec.size && int_lt (pos 0) spec.hop

-- their ticks
abbrev pub size_of : GridSpec → ℕ
size_of spec = unsigned_abs spec.size

abbrev pub hop_of : GridSpec → ℕ
hop_of spec = unsigned_abs spec.hop

-- end - size < time ≤ end, for the end and then the time
abbrev pub grid_holds : ℕ → ℕ → ℕ → Bool
grid_holds size e t = nat_le t e && nat_lt e (t + size)

-- the number of the first multiple of the hop at or after t
abbrev pub first_multiple : ℕ → ℕ → ℕ
first_multiple hop t = (t + (hop - 1)) / hop

-- n multiples of the hop, from the a-th on
abbrev pub multiples : ℕ → ℕ → ℕ → List ℕ
multiples hop a zero = []
multiples hop a (suc n) = multiples hop a n ++ (a + n) * hop ∷ []

-- the multiples of the hop from t on that are below t + size
abbrev pub grid_ends : ℕ → ℕ → ℕ → List ℕ
grid_ends size hop t = filter (λ e. nat_lt e (t + size)) (multiples hop (first_multiple hop t) (size / hop + 1))

-- the windows of a grid
abbrev pub grid_windows : GridSpec → Windows
grid_windows spec = record {
  ends = grid_ends (size_of spec) (hop_of spec);
  holds = grid_holds (size_of spec);
  reach = size_of spec;
  keys = spec.keys;
  aggregates = spec.aggs;
}

-- the rows of a grid
abbrev pub grid : GridSpec → List Stamped → List Stamped
grid spec rows = windowed (grid_windows spec) rows
