-- The Gregorian calendar: lengths of years and months, the number of a date, the date of a number.
use Rattle.std.specs.Prelude.{ℕ, zero, suc, ◌+◌, ◌-◌, ◌/◌, ◌%◌, ◌<◌, Bool, not, ◌==◌, ◌&&◌, ◌||◌, nat_lt, nat_le, if◌then◌else◌, Option, Some, None, ℤ, pos, ◌-ℤ◌}
use Rattle.tick_time.specs.Ticks.{day_ticks}
use Rattle.tick_time.specs.declared.civil_date.CivilDate.{CivilDate}

-- every fourth year, but of the centuries only every fourth
abbrev pub is_leap_year : ℕ → Bool
is_leap_year y = (y % 4 == 0) && (not (y % 100 == 0) || (y % 400 == 0))

-- the days of a year
abbrev pub days_in_year : ℕ → ℕ
days_in_year y = if is_leap_year y then 366 else 365

-- thirty days have September, April, June and November
abbrev pub days_in_month : ℕ → ℕ → ℕ
days_in_month y m =
    if m == 2 then (if is_leap_year y then 29 else 28)
    else (if (m == 4) || (m == 6) || (m == 9) || (m == 11) then 30 else 31)

-- the days of the years from 0 on that end before this one
unfoldable pub days_before_year : ℕ → ℕ
days_before_year zero = 0
days_before_year (suc y) = days_before_year y + days_in_year y

-- the days of the first n months of a year
unfoldable pub days_of_months : ℕ → ℕ → ℕ
days_of_months y zero = 0
days_of_months y (suc n) = days_of_months y n + days_in_month y (suc n)

-- the days from the first day of the year 0 to this date
abbrev pub days_before : CivilDate → ℕ
days_before d = days_before_year d.year + days_of_months d.year (d.month - 1) + (d.day - 1)

-- the first date of 1970, whose number is 0
abbrev pub epoch : CivilDate
epoch = record { year = 1970; month = 1; day = 1 }

-- the number of a date: the days from the epoch on, below 0 before it
abbrev pub day_number : CivilDate → ℤ
day_number d = pos (days_before d) -ℤ pos (days_before epoch)

-- the calendar has this date
abbrev pub is_date : CivilDate → Bool
is_date d =
    nat_le 1 d.month && nat_le d.month 12
    && nat_le 1 d.day && nat_le d.day (days_in_month d.year d.month)

-- the first year that four digits do not name
abbrev pub end_year : ℕ
end_year = 10_000

-- the year has at most four digits, the month and the day at most two
abbrev pub HasDigits : CivilDate → Type 0
HasDigits d = (d.year < end_year) × (d.month < 100) × (d.day < 100)

-- the number of a date, where the calendar has it
unfoldable pub date_number : CivilDate → Option ℤ
date_number d = if is_date d then Some (day_number d) else None

-- the date of the day after
abbrev pub next_date : CivilDate → CivilDate
next_date d =
    if nat_lt d.day (days_in_month d.year d.month)
    then record { year = d.year; month = d.month; day = d.day + 1 }
    else (if nat_lt d.month 12 then record { year = d.year; month = d.month + 1; day = 1 }
    else record { year = d.year + 1; month = 1; day = 1 })

-- the date that stands so many days after the epoch
unfoldable pub date_of_number : ℕ → CivilDate
date_of_number zero = epoch
date_of_number (suc n) = next_date (date_of_number n)

-- the date of a moment
abbrev pub date_of : ℕ → CivilDate
date_of n = date_of_number (n / day_ticks)
