-- Counts of faults, of 64 bits.
use Rattle.std.specs.Prelude.{ℕ, ◌+◌, ◌-◌, ◌^◌, ◌≤◌, min}

-- the last count
abbrev pub last_count : ℕ
last_count = 2 ^ 64 - 1

-- one more, but for the last count, at which it stands still
abbrev pub next_count : ℕ → ℕ
next_count n = min (n + 1) last_count

-- the count has risen, or stands at its last value
abbrev pub HasRisen : ℕ → ℕ → Type 0
HasRisen old new = next_count old ≤ new
