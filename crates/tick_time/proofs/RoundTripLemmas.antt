-- The written form of a moment below the limit is a form, of that moment's ticks.
use Rattle.std.proofs.Common.{◌≡◌, ℕ, true, ◌+◌, ◌*◌, ◌/◌, ◌%◌, ◌<◌, refl, ap, ◌∙◌, arith, Some, pos, ◌+ℤ◌, ◌-ℤ◌, ◌*ℤ◌}
use Prim.Native.Char.{code}
use Rattle.std.proofs.lemmas.Bool.{lt-ltb}
use Rattle.std.specs.List.{list_all}
use Rattle.jiff_core.proofs.SignedLemmas.{signed_arith}
use Rattle.tick_time.specs.Moment.{end_ticks, limit_ticks, before_end, moment_below_limit}
use Rattle.tick_time.specs.Ticks.{day_ticks, hour_ticks, minute_ticks, second_ticks}
use Rattle.tick_time.specs.Calendar.{day_number, date_of}
use Rattle.tick_time.specs.MomentText.{seven_digits, text_before_end, moment_text}
use Rattle.tick_time.specs.MomentReading.{is_digit, moment_of}
use Rattle.tick_time.specs.MomentForms.{SplitSeconds, UpperZ, TimeOfDay, Form, IsForm, form_text, time_ticks, form_ticks}
use Rattle.tick_time.proofs.CalendarLemmas.{days_before-epoch, date_of_number_is, date_of_number_exists, year_before_end}
use Rattle.tick_time.proofs.DigitLemmas.{is_digit-digit, fraction_ticks-seven_digits}
use Rattle.tick_time.proofs.FormLemmas.{form_read}

-- the form that is written of a moment
abbrev written_form : ℕ → Form
written_form n = record {
  date = date_of n;
  time = TimeOfDay (code "T") (n % day_ticks / hour_ticks) (n % day_ticks / minute_ticks % 60)
      (SplitSeconds (n % day_ticks / second_ticks % 60) (seven_digits (n % day_ticks % second_ticks))) UpperZ;
}

written_text : (n : ℕ) → text_before_end n ≡ form_text (written_form n)
written_text n = refl

seven_digits_pass : (n : ℕ) → list_all is_digit (seven_digits n) ≡ true
seven_digits_pass n =
    rw (is_digit-digit n 1_000_000, is_digit-digit n 100_000, is_digit-digit n 10_000, is_digit-digit n 1000, is_digit-digit n 100, is_digit-digit n 10, is_digit-digit n 1) refl

written_is_form : (n : ℕ) → n < end_ticks → IsForm (written_form n)
written_is_form n h =
    let is = date_of_number_is (n / day_ticks) in
    record {
      year = year_before_end (date_of n) (omega (arith, is.number, h));
      date = date_of_number_exists (n / day_ticks);
      time = (refl, omega arith, omega arith, (omega arith, seven_digits_pass (n % day_ticks % second_ticks), omega arith, omega arith), tt);
    }

time_sum : (t : ℕ) → t < day_ticks → t / hour_ticks * hour_ticks + t / minute_ticks % 60 * minute_ticks + (t / second_ticks % 60 * second_ticks + t % second_ticks) ≡ t
time_sum t h = omega arith

written_ticks : (n : ℕ) → form_ticks (written_form n) ≡ pos n
written_ticks n =
    let t = n % day_ticks in
    let is = date_of_number_is (n / day_ticks) in
    let number : day_number (date_of n) ≡ pos (n / day_ticks) = omega (arith, signed_arith, is.number, days_before-epoch) in
    let fraction = fraction_ticks-seven_digits (t % second_ticks) (omega arith) in
    let time = ap (λ f. t / hour_ticks * hour_ticks + t / minute_ticks % 60 * minute_ticks + (t / second_ticks % 60 * second_ticks + f)) fraction ∙ time_sum t (omega arith) in
    ap (λ z. z *ℤ pos day_ticks +ℤ time_ticks (written_form n).time) number
    ∙ ap (λ k. pos (n / day_ticks) *ℤ pos day_ticks +ℤ (pos k -ℤ pos 0)) time
    ∙ omega (arith, signed_arith)

pub moment_of-moment_text : (n : ℕ) → n < limit_ticks → moment_of (moment_text n) ≡ Some n
unfolding moment_text
moment_of-moment_text n h =
    let same : before_end n ≡ n = omega arith in
    rw same (ap moment_of (written_text n) ∙ form_read (written_form n) (written_is_form n (omega (arith, h))) ∙ ap moment_below_limit (written_ticks n) ∙ rw (lt-ltb n limit_ticks h) refl)
