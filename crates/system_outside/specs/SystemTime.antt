-- The moment of a time of the system's clock.
use Rattle.std.specs.Prelude.{ℕ, ◌-◌, ◌/◌, min}
use Rattle.tick_time.specs.Moment.{limit_ticks}

-- how many nanoseconds a tick has
abbrev pub tick_nanoseconds : ℕ
tick_nanoseconds = 100

-- the ticks that have passed whole since 1970, at most those of the last moment that texts name
abbrev pub moment_of_time : ℕ → ℕ
moment_of_time nanoseconds = min (nanoseconds / tick_nanoseconds) (limit_ticks - 1)
