-- The lengths of days and their parts, in ticks of 100 ns.
use Rattle.std.specs.Prelude.{ℕ}

-- a day
abbrev pub day_ticks : ℕ
day_ticks = 864_000_000_000

-- an hour
abbrev pub hour_ticks : ℕ
hour_ticks = 36_000_000_000

-- a minute
abbrev pub minute_ticks : ℕ
minute_ticks = 600_000_000

-- a second
abbrev pub second_ticks : ℕ
second_ticks = 10_000_000

-- a millisecond
abbrev pub millisecond_ticks : ℕ
millisecond_ticks = 10_000

-- a microsecond
abbrev pub microsecond_ticks : ℕ
microsecond_ticks = 10
