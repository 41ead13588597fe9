-- The range of moments, in ticks of 100 ns since 1970-01-01T00:00:00Z.
use Rattle.std.specs.Prelude.{ℕ, ◌-◌, min, nat_lt, if◌then◌else◌, Option, Some, None, ℤ, pos, negsuc, ◌≤ℤ◌}

-- the year 10000
abbrev pub end_ticks : ℕ
end_ticks = 2_534_023_008_000_000_000

-- the year 3000
abbrev pub limit_ticks : ℕ
limit_ticks = 325_036_800_000_000_000

-- a number of ticks from 0 to the year 10000
abbrev pub IsMomentTicks : ℤ → Type 0
IsMomentTicks n = (pos 0 ≤ℤ n) × (n ≤ℤ pos end_ticks)

-- in the calendar the greatest moment counts as the one before it
abbrev pub before_end : ℕ → ℕ
before_end n = min n (end_ticks - 1)

-- the moment of a number of ticks, where it is at least 0 and before the year 3000
abbrev pub moment_below_limit : ℤ → Option ℕ
moment_below_limit (pos n) = if nat_lt n limit_ticks then Some n else None
moment_below_limit (negsuc _) = None
