-- A clock in memory.
use Rattle.std.specs.Prelude.{ℕ, zero, suc, ◌-◌, List, [], ◌∷◌, ◌++◌, length, min, slice_index}
use Rattle.std.specs.Prelude.{nat_lt, if◌then◌else◌, Option, Some, None}
use Rattle.outside.specs.Faults.{last_count, next_count}

-- the moments that it gives, and how many calls there were
pub record ClockInMemory : Type 0 where
  pub moments : List ℕ
  pub calls : ℕ

-- before the first call
abbrev pub fresh_clock : List ℕ → ClockInMemory
fresh_clock moments = record { moments = moments; calls = 0 }

-- one call more
abbrev pub clock_after_call : ClockInMemory → ClockInMemory
clock_after_call clock = record clock { calls = next_count clock.calls }

-- what the call of a number gives: the moments in order, and then the last one again
abbrev pub moment_at : List ℕ → ℕ → ℕ
moment_at moments call = slice_index moments (min call (length moments - 1))

-- what so many calls give
abbrev pub moments_of : List ℕ → ℕ → List ℕ
moments_of moments zero = []
moments_of moments (suc calls) = moments_of moments calls ++ moment_at moments calls ∷ []

-- what it makes known: all that it gave, until the count of its calls stands still
abbrev pub known_given : ClockInMemory → Option (List ℕ)
known_given clock =
    if nat_lt clock.calls last_count then Some (moments_of clock.moments clock.calls) else None
