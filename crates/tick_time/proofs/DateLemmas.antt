-- Months out of the range of moments have no moment.
use Rattle.std.proofs.Common.{◌≡◌, ℕ, ◌/◌, ◌%◌, ◌<◌, ◌≤◌, refl, sym, ⊎_elim, arith, None, ℤ, pos, negsuc, ◌+ℤ◌, ◌*ℤ◌, ◌<ℤ◌, ◌≤ℤ◌}
use Rattle.std.proofs.lemmas.Bool.{cases_lt}
use Rattle.std.proofs.lemmas.Int.{ints}
use Rattle.jiff_core.proofs.SignedLemmas.{signed_arith}
use Rattle.tick_time.specs.Moment.{end_ticks, limit_ticks, moment_below_limit}
use Rattle.tick_time.specs.Ticks.{day_ticks}
use Rattle.tick_time.specs.Calendar.{day_number, date_of}
use Rattle.tick_time.specs.DateArithmetic.{month_index, end_month, date_in_month, moment_in_month, moment_in_signed_month}
use Rattle.tick_time.proofs.CalendarLemmas.{days_before-epoch, date_of_number_is, year_before_end, days_before_from_end}

moment_below_limit-none : (z : ℤ) → pos limit_ticks ≤ℤ z → moment_below_limit z ≡ None
moment_below_limit-none z h = grind (arith, ints)

late_month : (index n : ℕ) → end_month ≤ index → moment_in_month index n ≡ None
late_month index n h =
    let year : 10_000 ≤ index / 12 = omega arith in
    let days = days_before_from_end (date_in_month index (date_of n).day) year in
    let n_of : ℤ = day_number (date_in_month index (date_of n).day) *ℤ pos day_ticks +ℤ pos (n % day_ticks) in
    let late : pos limit_ticks ≤ℤ n_of = omega (arith, signed_arith, days, days_before-epoch) in
    moment_below_limit-none n_of late

pub signed_month-none : (z : ℤ) (n : ℕ) → (pos 0 ≤ℤ z → z <ℤ pos end_month → ⊥) → None ≡ moment_in_signed_month z n
signed_month-none (negsuc k) n h = refl
signed_month-none (pos k) n h =
    ⊎_elim (λ lt. absurd (h (omega (arith, signed_arith)) (omega (arith, signed_arith, lt)))) (λ le. sym (late_month k n le)) (cases_lt k end_month)

-- the month of a moment before the end
pub month_index_before_end : (n : ℕ) → n < end_ticks → month_index (date_of n) < end_month
month_index_before_end n h =
    let is = date_of_number_is (n / day_ticks) in
    let year = year_before_end (date_of n) (omega (arith, is.number, h)) in
    omega (arith, year, is.date.month_to)
