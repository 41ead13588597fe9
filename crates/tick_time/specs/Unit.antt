-- Units of lengths: their ticks, and the words that name them.
use Rattle.std.specs.Prelude.{ℕ, Bool, ◌||◌, List, codes, Option, Some, None, if◌then◌else◌}
use Rattle.std.specs.Str.{str_eq_ignore_ascii_case}
use Rattle.tick_time.specs.Ticks.{day_ticks, hour_ticks, minute_ticks, second_ticks, millisecond_ticks, microsecond_ticks}
use Rattle.tick_time.specs.declared.unit.Unit.{Unit}
use Rattle.tick_time.specs.declared.unit.Unit.TheVariants.{Day, Hour, Minute, Second, Millisecond, Microsecond}

-- the ticks of a unit
abbrev pub unit_ticks : Unit → ℕ
unit_ticks Day = day_ticks
unit_ticks Hour = hour_ticks
unit_ticks Minute = minute_ticks
unit_ticks Second = second_ticks
unit_ticks Millisecond = millisecond_ticks
unit_ticks Microsecond = microsecond_ticks

-- a word is a name, but for the case of ASCII letters
abbrev pub is_name : List ℕ → List ℕ → Bool
is_name name word = str_eq_ignore_ascii_case word name

-- the names of each unit
abbrev pub is_day_name : List ℕ → Bool
is_day_name word =
    is_name (codes "day") word || is_name (codes "dd") word || is_name (codes "d") word

abbrev pub is_hour_name : List ℕ → Bool
is_hour_name word = is_name (codes "hour") word || is_name (codes "hh") word

abbrev pub is_minute_name : List ℕ → Bool
is_minute_name word =
    is_name (codes "minute") word || is_name (codes "mi") word || is_name (codes "n") word

abbrev pub is_second_name : List ℕ → Bool
is_second_name word =
    is_name (codes "second") word || is_name (codes "ss") word || is_name (codes "s") word

abbrev pub is_millisecond_name : List ℕ → Bool
is_millisecond_name word = is_name (codes "millisecond") word || is_name (codes "ms") word

abbrev pub is_microsecond_name : List ℕ → Bool
is_microsecond_name word = is_name (codes "microsecond") word || is_name (codes "mcs") word

-- the unit that a word names
unfoldable pub unit_named : List ℕ → Option Unit
unit_named word =
    if is_day_name word then Some Day
    else (if is_hour_name word then Some Hour
    else (if is_minute_name word then Some Minute
    else (if is_second_name word then Some Second
    else (if is_millisecond_name word then Some Millisecond
    else (if is_microsecond_name word then Some Microsecond else None)))))
