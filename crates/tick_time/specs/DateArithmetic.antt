-- Adding parts to moments, counting their boundaries between moments, and their fields of a moment.
use Rattle.std.specs.Prelude.{ℕ, ◌+◌, ◌-◌, ◌*◌, ◌/◌, ◌%◌, min, Option, None, ℤ, pos, negsuc, ◌+ℤ◌, ◌-ℤ◌, ◌*ℤ◌}
use Rattle.tick_time.specs.Moment.{before_end, moment_below_limit}
use Rattle.tick_time.specs.Ticks.{day_ticks, hour_ticks, minute_ticks, second_ticks, millisecond_ticks, microsecond_ticks}
use Rattle.tick_time.specs.Calendar.{end_year, days_in_month, day_number, date_of}
use Rattle.tick_time.specs.declared.civil_date.CivilDate.{CivilDate}
use Rattle.tick_time.specs.declared.part.Part.{Part}
use Rattle.tick_time.specs.declared.part.Part.TheVariants.{Year, Month, Day, Hour, Minute, Second, Millisecond, Microsecond}

-- the months from the first month of the year 0 to that of a date
abbrev pub month_index : CivilDate → ℕ
month_index d = d.year * 12 + (d.month - 1)

-- the first month of the year 10000
abbrev pub end_month : ℕ
end_month = end_year * 12

-- the date in a month at a day, or at the month's last day
abbrev pub date_in_month : ℕ → ℕ → CivilDate
date_in_month index day = record {
  year = index / 12;
  month = index % 12 + 1;
  day = min day (days_in_month (index / 12) (index % 12 + 1));
}

-- the moment in a month at a moment's day, or at the month's last day, and at its time of day
abbrev pub moment_in_month : ℕ → ℕ → Option ℕ
moment_in_month index n =
    let date = date_in_month index (date_of n).day in
    moment_below_limit (day_number date *ℤ pos day_ticks +ℤ pos (n % day_ticks))

-- the same, where a month before the year 0 has no moment
abbrev pub moment_in_signed_month : ℤ → ℕ → Option ℕ
moment_in_signed_month (pos index) n = moment_in_month index n
moment_in_signed_month (negsuc _) n = None

-- so many months later
abbrev pub sum_of_months : ℤ → ℕ → Option ℕ
sum_of_months k n = moment_in_signed_month (k +ℤ pos (month_index (date_of n))) n

-- so many lengths of these ticks later
abbrev pub sum_of_ticks : ℕ → ℤ → ℕ → Option ℕ
sum_of_ticks ticks k n = moment_below_limit (pos n +ℤ (k *ℤ pos ticks))

-- k parts later than a moment before the end
abbrev pub sum_before_end : Part → ℤ → ℕ → Option ℕ
sum_before_end Year k n = sum_of_months (k *ℤ pos 12) n
sum_before_end Month k n = sum_of_months k n
sum_before_end Day k n = sum_of_ticks day_ticks k n
sum_before_end Hour k n = sum_of_ticks hour_ticks k n
sum_before_end Minute k n = sum_of_ticks minute_ticks k n
sum_before_end Second k n = sum_of_ticks second_ticks k n
sum_before_end Millisecond k n = sum_of_ticks millisecond_ticks k n
sum_before_end Microsecond k n = sum_of_ticks microsecond_ticks k n

-- k parts later than a moment
unfoldable pub date_sum : Part → ℤ → ℕ → Option ℕ
date_sum part k n = sum_before_end part k (before_end n)

-- how many boundaries of a part lie between a fixed start and a moment
abbrev pub boundaries_to : Part → ℕ → ℕ
boundaries_to Year n = (date_of n).year
boundaries_to Month n = month_index (date_of n)
boundaries_to Day n = n / day_ticks
boundaries_to Hour n = n / hour_ticks
boundaries_to Minute n = n / minute_ticks
boundaries_to Second n = n / second_ticks
boundaries_to Millisecond n = n / millisecond_ticks
boundaries_to Microsecond n = n / microsecond_ticks

-- the boundaries of a part that are crossed from a moment to another
unfoldable pub date_difference : Part → ℕ → ℕ → ℤ
date_difference part from to =
    pos (boundaries_to part (before_end to)) -ℤ pos (boundaries_to part (before_end from))

-- a part of the date or of the time of day, of a moment before the end
abbrev pub field_before_end : Part → ℕ → ℕ
field_before_end Year n = (date_of n).year
field_before_end Month n = (date_of n).month
field_before_end Day n = (date_of n).day
field_before_end Hour n = n / hour_ticks % 24
field_before_end Minute n = n / minute_ticks % 60
field_before_end Second n = n / second_ticks % 60
field_before_end Millisecond n = n / millisecond_ticks % 1000
field_before_end Microsecond n = n / microsecond_ticks % 1_000_000

-- the same of a moment
unfoldable pub date_field : Part → ℕ → ℕ
date_field part n = field_before_end part (before_end n)
