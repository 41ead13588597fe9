-- The grammar of a moment's text: its forms, how each is written, and the ticks that it counts.
use Rattle.std.specs.Prelude.{ℕ, ◌+◌, ◌*◌, ◌/◌, ◌<◌, ◌≤◌, IsTrue, List, [], ◌∷◌, ◌++◌, length, codes, ℤ, pos, neg_ℤ, ◌+ℤ◌, ◌-ℤ◌, ◌*ℤ◌, ◌≡◌}
use Rattle.std.specs.List.{list_all}
use Rattle.tick_time.specs.Ticks.{day_ticks, hour_ticks, minute_ticks, second_ticks}
use Rattle.tick_time.specs.declared.civil_date.CivilDate.{CivilDate}
use Rattle.tick_time.specs.Calendar.{end_year, is_date, day_number}
use Rattle.tick_time.specs.MomentText.{two_digits, date_text}
use Rattle.tick_time.specs.MomentReading.{is_digit, is_separator, fraction_ticks}

-- seconds: none, whole ones, or with the digits of a fraction
pub data Seconds : Type 0 where
  NoSeconds : Seconds
  WholeSeconds : (second : ℕ) → Seconds
  SplitSeconds : (second : ℕ) (digits : List ℕ) → Seconds

-- a zone: none, Z, z, or an offset ahead of UTC or behind it
pub data Zone : Type 0 where
  NoZone : Zone
  UpperZ : Zone
  LowerZ : Zone
  Ahead : (hour minute : ℕ) → Zone
  Behind : (hour minute : ℕ) → Zone

-- a time of day: none, or behind a separator
pub data Time : Type 0 where
  NoTime : Time
  TimeOfDay : (separator hour minute : ℕ) (seconds : Seconds) (zone : Zone) → Time

-- the parts of a moment's text
pub record Form : Type 0 where
  pub date : CivilDate
  pub time : Time

-- seconds are below 60, and a fraction has 1 to 9 digits
abbrev pub IsSeconds : Seconds → Type 0
IsSeconds NoSeconds = Unit {0}
IsSeconds (WholeSeconds second) = second < 60
IsSeconds (SplitSeconds second digits) =
    (second < 60) × IsTrue (list_all is_digit digits) × (1 ≤ length digits) × (length digits ≤ 9)

-- the hours of an offset are below 24, its minutes below 60
abbrev pub IsZone : Zone → Type 0
IsZone NoZone = Unit {0}
IsZone UpperZ = Unit {0}
IsZone LowerZ = Unit {0}
IsZone (Ahead hour minute) = (hour < 24) × (minute < 60)
IsZone (Behind hour minute) = (hour < 24) × (minute < 60)

-- a time of day is one of a day of 24 hours
abbrev pub IsTime : Time → Type 0
IsTime NoTime = Unit {0}
IsTime (TimeOfDay separator hour minute seconds zone) =
    IsTrue (is_separator separator) × (hour < 24) × (minute < 60) × IsSeconds seconds × IsZone zone

-- the parts are in their ranges: the calendar has the date, and its year has four digits
pub record IsForm (f : Form) : Type 0 where
  pub year : f.date.year < end_year
  pub date : IsTrue (is_date f.date)
  pub time : IsTime f.time

-- :SS, with .digits
abbrev pub seconds_text : Seconds → List ℕ
seconds_text NoSeconds = []
seconds_text (WholeSeconds second) = codes ":" ++ two_digits second
seconds_text (SplitSeconds second digits) =
    codes ":" ++ (two_digits second ++ (codes "." ++ digits))

-- HH:MM
abbrev pub clock_text : ℕ → ℕ → List ℕ
clock_text hour minute = two_digits hour ++ (codes ":" ++ two_digits minute)

-- Z, z, +HH:MM or -HH:MM
abbrev pub zone_text : Zone → List ℕ
zone_text NoZone = []
zone_text UpperZ = codes "Z"
zone_text LowerZ = codes "z"
zone_text (Ahead hour minute) = codes "+" ++ clock_text hour minute
zone_text (Behind hour minute) = codes "-" ++ clock_text hour minute

-- what stands behind the date
abbrev pub form_time_text : Time → List ℕ
form_time_text NoTime = []
form_time_text (TimeOfDay separator hour minute seconds zone) =
    separator ∷ (clock_text hour minute ++ (seconds_text seconds ++ zone_text zone))

-- how a form is written
abbrev pub form_text : Form → List ℕ
form_text f = date_text f.date ++ form_time_text f.time

-- the ticks since the minute
abbrev pub seconds_ticks : Seconds → ℕ
seconds_ticks NoSeconds = 0
seconds_ticks (WholeSeconds second) = second * second_ticks
seconds_ticks (SplitSeconds second digits) =
    second * second_ticks + fraction_ticks digits (second_ticks / 10)

-- the ticks of hours and minutes
abbrev pub clock_ticks : ℕ → ℕ → ℕ
clock_ticks hour minute = hour * hour_ticks + minute * minute_ticks

-- the ticks that a zone is ahead of UTC
abbrev pub offset_ticks : Zone → ℤ
offset_ticks NoZone = pos 0
offset_ticks UpperZ = pos 0
offset_ticks LowerZ = pos 0
offset_ticks (Ahead hour minute) = pos (clock_ticks hour minute)
offset_ticks (Behind hour minute) = neg_ℤ (pos (clock_ticks hour minute))

-- the ticks since midnight in UTC
abbrev pub time_ticks : Time → ℤ
time_ticks NoTime = pos 0
time_ticks (TimeOfDay _ hour minute seconds zone) =
    pos (clock_ticks hour minute + seconds_ticks seconds) -ℤ offset_ticks zone

-- the ticks since 1970 that a form names
abbrev pub form_ticks : Form → ℤ
form_ticks f = day_number f.date *ℤ pos day_ticks +ℤ time_ticks f.time

-- the text is that of a form
pub record IsFormText (text : List ℕ) : Type 0 where
  pub form : Form
  pub proper : IsForm form
  pub is : text ≡ form_text form
