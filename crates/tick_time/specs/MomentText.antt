-- The written form of a moment, YYYY-MM-DDTHH:MM:SS.fffffffZ.
use Rattle.std.specs.Prelude.{ℕ, ◌+◌, ◌/◌, ◌%◌, List, [], ◌∷◌, ◌++◌, codes}
use Rattle.tick_time.specs.Moment.{before_end}
use Rattle.tick_time.specs.Ticks.{day_ticks, hour_ticks, minute_ticks, second_ticks}
use Rattle.tick_time.specs.declared.civil_date.CivilDate.{CivilDate}
use Rattle.tick_time.specs.Calendar.{date_of}

-- the code of the digit 0
abbrev pub zero_digit : ℕ
zero_digit = 48

-- the decimal digit of n at a place, which is a power of ten
abbrev pub digit : ℕ → ℕ → ℕ
digit n place = zero_digit + n / place % 10

-- the last two digits of a number, its last four and its last seven
abbrev pub two_digits : ℕ → List ℕ
two_digits n = digit n 10 ∷ digit n 1 ∷ []

abbrev pub four_digits : ℕ → List ℕ
four_digits n = digit n 1000 ∷ digit n 100 ∷ two_digits n

abbrev pub seven_digits : ℕ → List ℕ
seven_digits n = digit n 1_000_000 ∷ digit n 100_000 ∷ digit n 10_000 ∷ four_digits n

-- YYYY-MM-DD
abbrev pub date_text : CivilDate → List ℕ
date_text d =
    four_digits d.year ++ (codes "-" ++ (two_digits d.month ++ (codes "-" ++ two_digits d.day)))

-- HH:MM:SS.fffffff, of the ticks since midnight
abbrev pub time_text : ℕ → List ℕ
time_text t =
    two_digits (t / hour_ticks)
    ++ (codes ":" ++ (two_digits (t / minute_ticks % 60)
    ++ (codes ":" ++ (two_digits (t / second_ticks % 60)
    ++ (codes "." ++ seven_digits (t % second_ticks))))))

-- the text of a moment before the year 10000
abbrev pub text_before_end : ℕ → List ℕ
text_before_end n =
    date_text (date_of n) ++ (codes "T" ++ (time_text (n % day_ticks) ++ codes "Z"))

-- the text of a moment
unfoldable pub moment_text : ℕ → List ℕ
moment_text n = text_before_end (before_end n)
