-- Each form of a moment's text is read as the ticks that it names.
use Rattle.std.proofs.Common.{◌≡◌, ℕ, ◌+◌, ◌/◌, ◌<◌, ◌≤◌, true, List, [], ◌∷◌, ◌++◌, length, refl, ap, arith, Some, ℤ, pos, ◌+ℤ◌, ◌-ℤ◌, ◌*ℤ◌}
use Prim.Native.Char.{code}
use Rattle.std.proofs.lemmas.Bool.{and_parts, le-leb}
use Rattle.std.proofs.Math.Seq.{take-append_seam, drop-append_seam}
use Rattle.std.specs.List.{list_all, prefix_len}
use Rattle.tick_time.specs.Moment.{moment_below_limit}
use Rattle.tick_time.specs.Ticks.{day_ticks, second_ticks}
use Rattle.tick_time.specs.declared.civil_date.CivilDate.{CivilDate}
use Rattle.tick_time.specs.Calendar.{is_date, day_number, date_number}
use Rattle.tick_time.specs.MomentText.{date_text}
use Rattle.tick_time.specs.MomentReading.{is_digit, is_separator, date_at_front, clock_at_front, fraction_ticks, fraction_at_front, second_at_front, seconds_at_front, offset_of, time_of, moment_of}
use Rattle.tick_time.specs.MomentForms.{Seconds, NoSeconds, WholeSeconds, SplitSeconds, Zone, NoZone, UpperZ, LowerZ, Ahead, Behind, Time, NoTime, TimeOfDay, Form, IsSeconds, IsZone, IsTime, IsForm, seconds_text, clock_text, zone_text, form_time_text, form_text, seconds_ticks, clock_ticks, offset_ticks, time_ticks, form_ticks}
use Rattle.tick_time.proofs.CalendarLemmas.{IsDate-is_date, days_in_month_last}
use Rattle.tick_time.proofs.DigitLemmas.{is_pair_below-two_digits, is_pair_below-four_digits, is_pair_below-last_digits, pair_value-two_digits, pair_value-four_digits}

date_read : (y m d : ℕ) (rest : List ℕ) → y < 10_000 → m < 100 → d < 100 → date_at_front (date_text (record { year = y; month = m; day = d }) ++ rest) ≡ Some (record { year = y; month = m; day = d }, rest)
unfolding date_at_front
date_read y m d rest year month day =
    rw (is_pair_below-four_digits y, is_pair_below-last_digits y, is_pair_below-two_digits 100 m month month, is_pair_below-two_digits 100 d day day, pair_value-four_digits y year, pair_value-two_digits m month, pair_value-two_digits d day) refl

clock_read : (s h m : ℕ) (rest : List ℕ) → is_separator s ≡ true → h < 24 → m < 60 → clock_at_front (s ∷ (clock_text h m ++ rest)) ≡ Some (clock_ticks h m, rest)
unfolding clock_at_front
clock_read s h m rest separator hour minute =
    let small : h < 100 = omega arith in
    let minute_small : m < 100 = omega arith in
    rw (separator, is_pair_below-two_digits 24 h hour small, is_pair_below-two_digits 60 m minute minute_small, pair_value-two_digits h small, pair_value-two_digits m minute_small) refl

zone_read : (z : Zone) → IsZone z → offset_of (zone_text z) ≡ Some (offset_ticks z)
unfolding offset_of
zone_read NoZone h = refl
zone_read UpperZ h = refl
zone_read LowerZ h = refl
zone_read (Ahead hour minute) h =
    let hour_small : hour < 100 = omega (arith, h.0) in
    let minute_small : minute < 100 = omega (arith, h.1) in
    rw (is_pair_below-two_digits 24 hour h.0 hour_small, is_pair_below-two_digits 60 minute h.1 minute_small, pair_value-two_digits hour hour_small, pair_value-two_digits minute minute_small) refl
zone_read (Behind hour minute) h =
    let hour_small : hour < 100 = omega (arith, h.0) in
    let minute_small : minute < 100 = omega (arith, h.1) in
    rw (is_pair_below-two_digits 24 hour h.0 hour_small, is_pair_below-two_digits 60 minute h.1 minute_small, pair_value-two_digits hour hour_small, pair_value-two_digits minute minute_small) refl

-- a zone begins with no colon, point or digit
no_seconds_before : (z : Zone) → seconds_at_front (zone_text z) ≡ Some (0, zone_text z)
unfolding seconds_at_front
no_seconds_before NoZone = refl
no_seconds_before UpperZ = refl
no_seconds_before LowerZ = refl
no_seconds_before (Ahead hour minute) = refl
no_seconds_before (Behind hour minute) = refl

no_fraction_before : (z : Zone) → fraction_at_front (zone_text z) ≡ Some (0, zone_text z)
unfolding fraction_at_front
no_fraction_before NoZone = refl
no_fraction_before UpperZ = refl
no_fraction_before LowerZ = refl
no_fraction_before (Ahead hour minute) = refl
no_fraction_before (Behind hour minute) = refl

no_digit_before : (z : Zone) → prefix_len is_digit (zone_text z) ≡ 0
no_digit_before NoZone = refl
no_digit_before UpperZ = refl
no_digit_before LowerZ = refl
no_digit_before (Ahead hour minute) = refl
no_digit_before (Behind hour minute) = refl

digits_before : (digits rest : List ℕ) → list_all is_digit digits ≡ true → prefix_len is_digit rest ≡ 0 → prefix_len is_digit (digits ++ rest) ≡ length digits
digits_before [] rest h e = e
digits_before (d ∷ ds) rest h e =
    let both = and_parts (is_digit d) (list_all is_digit ds) h in
    rw both.0 (omega (arith, digits_before ds rest both.1 e))

fraction_read : (digits : List ℕ) (z : Zone) → list_all is_digit digits ≡ true → 1 ≤ length digits → length digits ≤ 9 → fraction_at_front (code "." ∷ (digits ++ zone_text z)) ≡ Some (fraction_ticks digits (second_ticks / 10), zone_text z)
unfolding fraction_at_front
fraction_read digits z h from to =
    rw (digits_before digits (zone_text z) h (no_digit_before z), take-append_seam digits (zone_text z), drop-append_seam digits (zone_text z), le-leb _ _ from, le-leb _ _ to) refl

seconds_read : (s : Seconds) (z : Zone) → IsSeconds s → seconds_at_front (seconds_text s ++ zone_text z) ≡ Some (seconds_ticks s, zone_text z)
unfolding seconds_at_front second_at_front
seconds_read NoSeconds z h = no_seconds_before z
seconds_read (WholeSeconds second) z h =
    let small : second < 100 = omega (arith, h) in
    rw (is_pair_below-two_digits 60 second h small, no_fraction_before z, pair_value-two_digits second small) (ap (λ n. Some (n, zone_text z)) (omega arith))
seconds_read (SplitSeconds second digits) z h =
    let small : second < 100 = omega (arith, h.0) in
    rw (is_pair_below-two_digits 60 second h.0 small, fraction_read digits z h.1 h.2 h.3, pair_value-two_digits second small) refl

time_of_parts : (c : ℕ) (cs after behind : List ℕ) (clock seconds : ℕ) (offset : ℤ) → clock_at_front (c ∷ cs) ≡ Some (clock, after) → seconds_at_front after ≡ Some (seconds, behind) → offset_of behind ≡ Some offset → time_of (c ∷ cs) ≡ Some (pos (clock + seconds) -ℤ offset)
unfolding time_of
time_of_parts c cs after behind clock seconds offset e f g = rw (e, f, g) refl

time_read : (t : Time) → IsTime t → time_of (form_time_text t) ≡ Some (time_ticks t)
unfolding time_of
time_read NoTime h = refl
time_read (TimeOfDay separator hour minute seconds zone) h =
    time_of_parts separator (clock_text hour minute ++ (seconds_text seconds ++ zone_text zone)) _ _ _ _ _ (clock_read separator hour minute (seconds_text seconds ++ zone_text zone) h.0 h.1 h.2) (seconds_read seconds zone h.3) (zone_read zone h.4)

moment_of_parts : (text rest : List ℕ) (d : CivilDate) (number time : ℤ) → date_at_front text ≡ Some (d, rest) → date_number d ≡ Some number → time_of rest ≡ Some time → moment_of text ≡ moment_below_limit (number *ℤ pos day_ticks +ℤ time)
unfolding moment_of
moment_of_parts text rest d number time e f g = rw (e, f, g) refl

date_number_found : (d : CivilDate) → is_date d ≡ true → date_number d ≡ Some (day_number d)
unfolding date_number
date_number_found d h = rw h refl

pub form_read : (f : Form) → IsForm f → moment_of (form_text f) ≡ moment_below_limit (form_ticks f)
form_read f h =
    let is = IsDate-is_date f.date h.date in
    let month : f.date.month < 100 = omega (arith, is.month_to) in
    let day : f.date.day < 100 = omega (arith, is.day_to, days_in_month_last f.date.year f.date.month) in
    moment_of_parts (form_text f) (form_time_text f.time) f.date _ _ (date_read f.date.year f.date.month f.date.day (form_time_text f.time) h.year month day) (date_number_found f.date h.date) (time_read f.time h.time)
