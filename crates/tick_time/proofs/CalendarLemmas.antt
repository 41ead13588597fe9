-- The calendar's numbers are jiff's day numbers, and the date of a number is the one that has it.
use Rattle.std.proofs.Common.{◌≡◌, ℕ, zero, suc, ◌+◌, ◌-◌, ◌<◌, ◌≤◌, true, nat_lt, refl, ap, sym, ⊎_elim, ◌∙◌, arith, Some, None, ℤ, pos, unsigned_abs}
use Rattle.std.proofs.lemmas.Bool.{cond_both, ltb-true, ltb-false, cases_lt, false_from_ne_true, cond-true}
use Rattle.std.proofs.lemmas.Option.{same_Some}
use Rattle.std.proofs.lemmas.Bool.Decides.{nat_tests}
use Rattle.jiff_core.specs.Calendar as jiff
use Rattle.jiff_core.specs.Date.{epoch_day}
use Rattle.jiff_core.specs.declared.civil.date.Date.{Date}
use Rattle.jiff_core.proofs.CalendarLemmas.{day_count-next_year, day_count-day_of_year, day_count-epoch, day_count-end, days_from_civil-day_count, days_of_months_all}
use Rattle.jiff_core.proofs.DateLemmas.{epoch_day_injective}
use Rattle.jiff_core.proofs.MarchLemmas.{day_count-early}
use Rattle.jiff_core.proofs.SignedLemmas.{signed_arith}
use Rattle.tick_time.specs.declared.civil_date.CivilDate.{CivilDate}
use Rattle.tick_time.specs.Calendar.{days_in_year, days_in_month, days_before_year, days_of_months, days_before, epoch, day_number, is_date, date_number, next_date, date_of_number}

-- the days before the year 0 from the year from which jiff counts
days_to_zero : jiff.day_count (pos 0) 1 1 ≡ 3_652_425
days_to_zero = day_count-early (pos 0) 9999 1 1 refl (omega arith) (omega arith) (omega arith)

days_of_months-same : (y n : ℕ) → jiff.days_of_months (pos y) n ≡ days_of_months y n
unfolding days_of_months jiff.days_of_months
days_of_months-same y zero = refl
days_of_months-same y (suc n) = ap (λ d. d + days_in_month y (suc n)) (days_of_months-same y n)

days_in_year-same : (y : ℕ) → jiff.days_in_year (pos y) ≡ days_in_year y
days_in_year-same y = refl

days_before_year-same : (y : ℕ) → jiff.day_count (pos y) 1 1 ≡ 3_652_425 + days_before_year y
unfolding days_before_year
days_before_year-same zero = days_to_zero
days_before_year-same (suc y) =
    let next = day_count-next_year (pos y) (pos (suc y)) (omega (arith, signed_arith)) (omega (arith, signed_arith)) in
    let before = days_before_year-same y in
    omega (arith, next, before, days_in_year-same y)

days_before-same : (d : CivilDate) → 1 ≤ d.day → jiff.day_count (pos d.year) d.month d.day ≡ 3_652_425 + days_before d
days_before-same d first =
    let within = day_count-day_of_year (pos d.year) d.month d.day first in
    let years = days_before_year-same d.year in
    let months = days_of_months-same d.year (d.month - 1) in
    omega (arith, within, years, months)

pub days_before-epoch : days_before epoch ≡ 719_528
days_before-epoch = omega (arith, days_before-same epoch (omega arith), day_count-epoch)

-- the number of a date is jiff's
pub day_number-same : (d : CivilDate) → 1 ≤ d.day → jiff.days_from_civil (pos d.year) d.month d.day ≡ day_number d
day_number-same d first =
    let whole = days_from_civil-day_count (pos d.year) d.month d.day in
    let here = days_before-same d first in
    let base = days_before-epoch in
    omega (arith, signed_arith, whole, here, base)

-- the calendar has the date
pub record IsDate (d : CivilDate) : Type 0 where
  pub month_from : 1 ≤ d.month
  pub month_to : d.month ≤ 12
  pub day_from : 1 ≤ d.day
  pub day_to : d.day ≤ days_in_month d.year d.month

days_of_year : (y : ℕ) → days_of_months y 12 ≡ days_in_year y
days_of_year y = sym (days_of_months-same y 12) ∙ days_of_months_all (pos y)

days_of_months-more : (y m : ℕ) → 1 ≤ m → days_of_months y m ≡ days_of_months y (m - 1) + days_in_month y m
unfolding days_of_months
days_of_months-more y zero h = absurd (omega arith)
days_of_months-more y (suc m) h = let back : suc m - 1 ≡ m = omega arith in rw back

days_of_months-none : (y : ℕ) → days_of_months y 0 ≡ 0
unfolding days_of_months
days_of_months-none y = refl

days_before_year-next : (y : ℕ) → days_before_year (y + 1) ≡ days_before_year y + days_in_year y
unfolding days_before_year
days_before_year-next y = let e : y + 1 ≡ suc y = omega arith in rw e

days_in_month_first : (y m : ℕ) → 1 ≤ days_in_month y m
days_in_month_first y m = grind arith

pub days_in_month_last : (y m : ℕ) → days_in_month y m ≤ 31
days_in_month_last y m = grind arith

-- the date of the day after is a date, and has the next number
pub record IsAfter (d e : CivilDate) : Type 0 where
  pub date : IsDate e
  pub number : days_before e ≡ days_before d + 1

same_month : (y m d : ℕ) → IsDate (record { year = y; month = m; day = d }) → d < days_in_month y m → IsAfter (record { year = y; month = m; day = d }) (record { year = y; month = m; day = d + 1 })
same_month y m d h lt = record {
  date = record { month_from = h.month_from; month_to = h.month_to; day_from = omega arith; day_to = omega (arith, lt) };
  number = omega (arith, h.day_from);
}

next_month : (y m d : ℕ) → IsDate (record { year = y; month = m; day = d }) → days_in_month y m ≤ d → m < 12 → IsAfter (record { year = y; month = m; day = d }) (record { year = y; month = m + 1; day = 1 })
next_month y m d h last lt =
    let back : m + 1 - 1 ≡ m = omega arith in
    let months = ap (days_of_months y) back ∙ days_of_months-more y m h.month_from in
    record {
      date = record { month_from = omega arith; month_to = omega arith; day_from = omega arith; day_to = days_in_month_first y (m + 1) };
      number = omega (arith, h.day_from, h.day_to, months, last);
    }

next_year : (y m d : ℕ) → IsDate (record { year = y; month = m; day = d }) → days_in_month y m ≤ d → 12 ≤ m → IsAfter (record { year = y; month = m; day = d }) (record { year = y + 1; month = 1; day = 1 })
next_year y m d h last le =
    let december : m ≡ 12 = omega (arith, h.month_to) in
    let all = days_of_months-more y m h.month_from in
    let twelve = ap (days_of_months y) december in
    record {
      date = record { month_from = omega arith; month_to = omega arith; day_from = omega arith; day_to = days_in_month_first (y + 1) 1 };
      number = omega (arith, h.day_from, h.day_to, all, last, twelve, days_of_year y, days_before_year-next y, days_of_months-none (y + 1));
    }

pub next_date_after : (d : CivilDate) → IsDate d → IsAfter d (next_date d)
next_date_after d h =
    cond_both (nat_lt d.day (days_in_month d.year d.month)) _ _ (IsAfter d)
    (λ e. same_month d.year d.month d.day h (ltb-true _ _ e))
    (λ e. cond_both (nat_lt d.month 12) _ _ (IsAfter d)
    (λ f. next_month d.year d.month d.day h (ltb-false _ _ e) (ltb-true _ _ f))
    (λ f. next_year d.year d.month d.day h (ltb-false _ _ e) (ltb-false _ _ f)))

-- the date of a number is a date, and has that number
pub record IsNumbered (n : ℕ) (d : CivilDate) : Type 0 where
  pub date : IsDate d
  pub number : days_before d ≡ 719_528 + n

pub date_of_number_is : (n : ℕ) → IsNumbered n (date_of_number n)
unfolding date_of_number
date_of_number_is zero = record {
  date = record { month_from = omega arith; month_to = omega arith; day_from = omega arith; day_to = omega arith };
  number = omega (arith, days_before-epoch);
}
date_of_number_is (suc n) =
    let before = date_of_number_is n in
    let after = next_date_after (date_of_number n) before.date in
    record { date = after.date; number = omega (arith, after.number, before.number) }

-- years that come later begin later
days_before_year_mono : (y k : ℕ) → days_before_year y ≤ days_before_year (k + y)
unfolding days_before_year
days_before_year_mono y zero = let e : 0 + y ≡ y = omega arith in rw e (omega arith)
days_before_year_mono y (suc k) = let e : suc k + y ≡ suc (k + y) = omega arith in rw e (omega (arith, days_before_year_mono y k))

days_before_year-end : days_before_year 10_000 ≡ 3_652_425
days_before_year-end = omega (arith, days_before_year-same 10_000, day_count-end)

-- the dates from the year 10000 on have that many days before them
pub days_before_from_end : (d : CivilDate) → 10_000 ≤ d.year → 3_652_425 ≤ days_before d
days_before_from_end d h =
    let e : d.year - 10_000 + 10_000 ≡ d.year = omega arith in
    omega (arith, days_before_year-end, rw e at (days_before_year_mono 10_000 (d.year - 10_000)))

-- so a date with fewer is of an earlier year
pub year_before_end : (d : CivilDate) → days_before d < 3_652_425 → d.year < 10_000
year_before_end d h =
    ⊎_elim (λ lt. lt) (λ (le : 10_000 ≤ d.year). absurd (omega (arith, h, days_before_from_end d le))) (cases_lt d.year 10_000)

pub IsDate-is_date : (d : CivilDate) → is_date d ≡ true → IsDate d
IsDate-is_date d h = record { month_from = grind (arith, nat_tests); month_to = grind (arith, nat_tests); day_from = grind (arith, nat_tests); day_to = grind (arith, nat_tests) }

pub is_date-IsDate : (d : CivilDate) → IsDate d → is_date d ≡ true
is_date-IsDate d h = grind (arith, nat_tests)

-- jiff's date of a number is the date of that number
pub date_of_number-jiff : (n : ℕ) (d : Date) → n < 2_932_897 → epoch_day d ≡ pos n → (d.year ≡ pos (date_of_number n).year) × (d.month ≡ (date_of_number n).month) × (d.day ≡ (date_of_number n).day)
date_of_number-jiff n d h e =
    let is = date_of_number_is n in
    let low = year_before_end (date_of_number n) (omega (arith, is.number, h)) in
    let there : Date = record {
      year = pos (date_of_number n).year;
      month = (date_of_number n).month;
      day = (date_of_number n).day;
      year_in = omega (arith, signed_arith, low);
      month_in = (is.date.month_from, is.date.month_to);
      day_in = (is.date.day_from, is.date.day_to);
    } in
    let number = day_number-same (date_of_number n) is.date.day_from in
    epoch_day_injective d there (e ∙ sym (number ∙ omega (arith, signed_arith, is.number, days_before-epoch)))

-- the parts of a date make it up
pub date_of_parts : (z : ℤ) (m d : ℕ) (e : CivilDate) → z ≡ pos e.year → m ≡ e.month → d ≡ e.day → ◌≡◌ {A = CivilDate} (record { year = unsigned_abs z; month = m; day = d }) e
date_of_parts z m d e year month day = rw (year, month, day)

-- jiff has the date of these parts: it is a date, with jiff's number
pub date_number-some : (d : CivilDate) (j : Date) → j.year ≡ pos d.year → j.month ≡ d.month → j.day ≡ d.day → Some (epoch_day j) ≡ date_number d
unfolding date_number
date_number-some d j year month day =
    let from = rw day at j.day_in.0 in
    let same : epoch_day j ≡ day_number d = rw (year, month, day) (day_number-same d from) in
    let is : IsDate d = record {
      month_from = rw (← month) j.month_in.0;
      month_to = rw (← month) j.month_in.1;
      day_from = from;
      day_to = rw (year, month, day) at j.day_in.1;
    } in
    rw (is_date-IsDate d is) (ap Some same)

-- jiff has no such date: it is none
pub date_number-none : (d : CivilDate) (y m n : ℤ) → y ≡ pos d.year → m ≡ pos d.month → n ≡ pos d.day → d.year < 10_000 → (jiff.IsDate y m n → ⊥) → None ≡ date_number d
unfolding date_number
date_number-none d y m n year month day low none =
    let no = false_from_ne_true (is_date d) (λ e.
    let is = IsDate-is_date d e in
    none (rw (year, month, day) (
      (omega (arith, signed_arith), omega (arith, signed_arith, low)),
      (omega (arith, signed_arith, is.month_from), omega (arith, signed_arith, is.month_to)),
      (omega (arith, signed_arith, is.day_from), omega (arith, signed_arith, is.day_to)),
    ))) in
    rw no

-- the date of a number is there
pub date_of_number_exists : (n : ℕ) → is_date (date_of_number n) ≡ true
date_of_number_exists n = is_date-IsDate (date_of_number n) (date_of_number_is n).date

-- the number of the date of a number
pub date_number-date_of_number : (n : ℕ) → date_number (date_of_number n) ≡ Some (pos n)
unfolding date_number
date_number-date_of_number n =
    let is = date_of_number_is n in
    rw (date_of_number_exists n) (ap Some (omega (arith, signed_arith, is.number, days_before-epoch)))

-- the number of a date that is there
pub date_number-is : (d : CivilDate) (z : ℤ) → is_date d ≡ true → Some z ≡ date_number d → z ≡ day_number d
unfolding date_number
date_number-is d z exists is = same_Some _ _ (is ∙ cond-true (is_date d) (Some (day_number d)) None exists)
