-- Lengths of at most seven days, forward or backward, in ticks.
use Rattle.std.specs.Prelude.{ℕ, ◌*◌, ◌≤◌, nat_le, Option, Some, None, if◌then◌else◌, ℤ, pos, ◌*ℤ◌, unsigned_abs}
use Rattle.tick_time.specs.Ticks.{day_ticks}
use Rattle.tick_time.specs.Unit.{unit_ticks}
use Rattle.tick_time.specs.declared.unit.Unit.{Unit}

-- seven days
abbrev pub max_span_ticks : ℕ
max_span_ticks = 7 * day_ticks

-- a length of at most seven days
abbrev pub IsSpanTicks : ℤ → Type 0
IsSpanTicks z = unsigned_abs z ≤ max_span_ticks

-- the length of so many units, where it is at most seven days
unfoldable pub span_of_units : Unit → ℤ → Option ℤ
span_of_units unit n =
    let ticks = n *ℤ pos (unit_ticks unit) in
    if nat_le (unsigned_abs ticks) max_span_ticks then Some ticks else None
