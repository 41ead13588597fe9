-- A text that is read is one of the grammar's forms.
use Rattle.std.proofs.Common.{◌≡◌, ℕ, ◌+◌, ◌*◌, ◌<◌, ◌≤◌, ◌⊎◌, inl, inr, true, nat_eq, List, [], ◌∷◌, ◌++◌, length, drop, take_while, refl, sym, ap, subst, ◌∙◌, Option, Some, None, option_map, ℤ}
use Prim.Native.Char.{code}
use Rattle.std.proofs.lemmas.Bool.{and_parts, or_cases, eqb-true, leb-true, cases_Bool}
use Rattle.std.proofs.lemmas.Option.{none-some, cond_some, same_Some, option_and_then_some}
use Rattle.std.proofs.lemmas.List.{take-append-drop}
use Rattle.std.proofs.lemmas.List.Sums.{list_all-from_AllPass}
use Rattle.std.proofs.lemmas.List.Folds.{length-prefix_len}
use Rattle.std.specs.List.{list_all, prefix_len}
use Rattle.tick_time.specs.Ticks.{second_ticks}
use Rattle.tick_time.specs.declared.civil_date.CivilDate.{CivilDate}
use Rattle.tick_time.specs.Calendar.{is_date, date_number}
use Rattle.tick_time.specs.MomentText.{date_text}
use Rattle.tick_time.specs.MomentReading.{is_digit, is_separator, pair_value, is_pair_below, date_at_front, clock_at_front, fraction_at_front, second_at_front, seconds_at_front, offset_of, time_of, moment_of}
use Rattle.tick_time.specs.MomentForms.{Seconds, NoSeconds, WholeSeconds, SplitSeconds, Zone, NoZone, UpperZ, LowerZ, Ahead, Behind, Time, NoTime, TimeOfDay, IsSeconds, IsZone, IsTime, IsFormText, seconds_text, clock_text, zone_text, form_time_text}
use Rattle.tick_time.proofs.DigitLemmas.{IsPair, IsPair-is_pair_below, AreFour-pairs, front_passes}

-- the text begins with a date
record BeginsWithDate (text : List ℕ) (d : CivilDate) (rest : List ℕ) : Type 0 where
  year : d.year < 10_000
  text_is : text ≡ date_text d ++ rest

date_front : (text rest : List ℕ) (d : CivilDate) → date_at_front text ≡ Some (d, rest) → BeginsWithDate text d rest
unfolding date_at_front
date_front (a ∷ b ∷ c ∷ d ∷ h ∷ e ∷ f ∷ i ∷ g ∷ j ∷ t) rest date p =
    let found = cond_some _ _ _ p in
    let days = and_parts _ _ found.0 in
    let second = and_parts _ _ days.0 in
    let months = and_parts _ _ second.0 in
    let first = and_parts _ _ months.0 in
    let years = and_parts _ _ first.0 in
    let year = AreFour-pairs a b c d (IsPair-is_pair_below 100 a b years.0) (IsPair-is_pair_below 100 c d years.1) in
    let month = IsPair-is_pair_below 100 e f months.1 in
    let day = IsPair-is_pair_below 100 g j days.1 in
    let hyphen = eqb-true h (code "-") first.1 in
    let second_hyphen = eqb-true i (code "-") second.1 in
    let P : CivilDate × List ℕ → Type 0 = λ x. BeginsWithDate (a ∷ b ∷ c ∷ d ∷ h ∷ e ∷ f ∷ i ∷ g ∷ j ∷ t) x.0 x.1 in
    subst P found.1 (record { year = year.small; text_is = cc })
date_front _ rest date p = absurd (none-some _ p)

-- the text begins with a separator and HH:MM
record BeginsWithClock (text rest : List ℕ) : Type 0 where
  separator : ℕ
  hour : ℕ
  minute : ℕ
  separator_is : is_separator separator ≡ true
  hour_below : hour < 24
  minute_below : minute < 60
  text_is : text ≡ separator ∷ (clock_text hour minute ++ rest)

clock_front : (text rest : List ℕ) (n : ℕ) → clock_at_front text ≡ Some (n, rest) → BeginsWithClock text rest
unfolding clock_at_front
clock_front (s ∷ a ∷ b ∷ c ∷ d ∷ e ∷ t) rest n p =
    let found = cond_some _ _ _ p in
    let minutes = and_parts _ _ found.0 in
    let colon = and_parts _ _ minutes.0 in
    let hours = and_parts _ _ colon.0 in
    let hour = IsPair-is_pair_below 24 a b hours.1 in
    let minute = IsPair-is_pair_below 60 d e minutes.1 in
    let colon_is = eqb-true c (code ":") colon.1 in
    let P : ℕ × List ℕ → Type 0 = λ x. BeginsWithClock (s ∷ a ∷ b ∷ c ∷ d ∷ e ∷ t) x.1 in
    subst P found.1 (record {
      separator = s;
      hour = pair_value a b;
      minute = pair_value d e;
      separator_is = hours.0;
      hour_below = hour.below;
      minute_below = minute.below;
      text_is = cc;
    })
clock_front _ rest n p = absurd (none-some _ p)

-- the text begins with a point and 1 to 9 digits, or the whole of it is left
data BeginsWithFraction (text rest : List ℕ) : Type 0 where
  Nothing : text ≡ rest → BeginsWithFraction text rest
  Digits : (digits : List ℕ) → list_all is_digit digits ≡ true → 1 ≤ length digits → length digits ≤ 9 → text ≡ code "." ∷ (digits ++ rest) → BeginsWithFraction text rest

fraction_behind : (c : ℕ) (cs rest : List ℕ) (n : ℕ) → nat_eq c (code ".") ≡ true → fraction_at_front (c ∷ cs) ≡ Some (n, rest) → BeginsWithFraction (c ∷ cs) rest
unfolding fraction_at_front
fraction_behind c cs rest n e p =
    let found = cond_some _ _ _ (rw e at p) in
    let lengths = and_parts _ _ found.0 in
    let P : ℕ × List ℕ → Type 0 = λ x. BeginsWithFraction (c ∷ cs) x.1 in
    let digits = take_while is_digit cs in
    let whole : digits ++ drop (length digits) cs ≡ cs = rw length-prefix_len (take-append-drop (prefix_len is_digit cs) cs) in
    subst P found.1 (Digits digits (list_all-from_AllPass is_digit digits (front_passes cs)) (leb-true 1 (length digits) lengths.0) (leb-true (length digits) 9 lengths.1) (ap (λ b. b ∷ cs) (eqb-true c (code ".") e) ∙ ap (λ t. code "." ∷ t) (sym whole)))

fraction_front : (text rest : List ℕ) (n : ℕ) → fraction_at_front text ≡ Some (n, rest) → BeginsWithFraction text rest
unfolding fraction_at_front
fraction_front [] rest n p = Nothing (ap (λ (x : ℕ × List ℕ). x.1) (same_Some _ _ p))
fraction_front (c ∷ cs) rest n p =
    elim (cases_Bool (nat_eq c (code "."))) [
      | inl e ↦ fraction_behind c cs rest n e p
      | inr e ↦ Nothing (ap (λ (x : ℕ × List ℕ). x.1) (same_Some _ _ (rw e at p)))
    ]

-- the text begins with seconds, or the whole of it is left
record BeginsWithSeconds (text rest : List ℕ) : Type 0 where
  seconds : Seconds
  proper : IsSeconds seconds
  text_is : text ≡ seconds_text seconds ++ rest

seconds_with : (a b : ℕ) (t rest : List ℕ) → IsPair 60 a b → BeginsWithFraction t rest → BeginsWithSeconds (code ":" ∷ a ∷ b ∷ t) rest
seconds_with a b t rest pair (Nothing e) = record { seconds = WholeSeconds (pair_value a b); proper = pair.below; text_is = cc }
seconds_with a b t rest pair (Digits digits all from to e) = record {
  seconds = SplitSeconds (pair_value a b) digits;
  proper = (pair.below, all, from, to);
  text_is = cc;
}

second_parts : (a b : ℕ) (t rest : List ℕ) (n : ℕ) (o : Option (ℕ × List ℕ)) → IsPair 60 a b → fraction_at_front t ≡ o → option_map {U = ℕ × List ℕ} (λ (f : ℕ × List ℕ). (pair_value a b * second_ticks + f.0, f.1)) o ≡ Some (n, rest) → BeginsWithSeconds (code ":" ∷ a ∷ b ∷ t) rest
unfolding fraction_at_front
second_parts a b t rest n None pair e p = absurd (none-some _ p)
second_parts a b t rest n (Some f) pair e p =
    let same = ap (λ (x : ℕ × List ℕ). x.1) (same_Some _ _ p) in
    seconds_with a b t rest pair (subst (λ r. BeginsWithFraction t r) same (fraction_front t f.1 f.0 e))

second_front : (text rest : List ℕ) (n : ℕ) → second_at_front text ≡ Some (n, rest) → BeginsWithSeconds (code ":" ∷ text) rest
unfolding second_at_front
second_front (a ∷ b ∷ t) rest n p =
    elim (cases_Bool (is_pair_below 60 a b)) [
      | inl e ↦ second_parts a b t rest n (fraction_at_front t) (IsPair-is_pair_below 60 a b e) refl (rw e at p)
      | inr e ↦ absurd (none-some _ (rw e at p))
    ]
second_front _ rest n p = absurd (none-some _ p)

seconds_front : (text rest : List ℕ) (n : ℕ) → seconds_at_front text ≡ Some (n, rest) → BeginsWithSeconds text rest
unfolding seconds_at_front
seconds_front [] rest n p = record { seconds = NoSeconds; proper = tt; text_is = ap (λ (x : ℕ × List ℕ). x.1) (same_Some _ _ p) }
seconds_front (c ∷ cs) rest n p =
    elim (cases_Bool (nat_eq c (code ":"))) [
      | inl e ↦ subst (λ b. BeginsWithSeconds (b ∷ cs) rest) (sym (eqb-true c (code ":") e)) (second_front cs rest n (rw e at p))
      | inr e ↦ record { seconds = NoSeconds; proper = tt; text_is = ap (λ (x : ℕ × List ℕ). x.1) (same_Some _ _ (rw e at p)) }
    ]

-- the text is a zone
record IsZoneText (text : List ℕ) : Type 0 where
  zone : Zone
  proper : IsZone zone
  text_is : text ≡ zone_text zone

letter_zone : (z : ℕ) → (nat_eq z (code "Z") ≡ true) ⊎ (nat_eq z (code "z") ≡ true) → IsZoneText (z ∷ [])
letter_zone z (inl e) = record { zone = UpperZ; proper = tt; text_is = ap (λ b. b ∷ []) (eqb-true z (code "Z") e) }
letter_zone z (inr e) = record { zone = LowerZ; proper = tt; text_is = ap (λ b. b ∷ []) (eqb-true z (code "z") e) }

offset_zone : (s a b c d e : ℕ) → (nat_eq s (code "+") ≡ true) ⊎ (nat_eq s (code "-") ≡ true) → IsPair 24 a b → c ≡ code ":" → IsPair 60 d e → IsZoneText (s ∷ a ∷ b ∷ c ∷ d ∷ e ∷ [])
offset_zone s a b c d e (inl plus) hour colon minute =
    let sign = eqb-true s (code "+") plus in
    record { zone = Ahead (pair_value a b) (pair_value d e); proper = (hour.below, minute.below); text_is = cc }
offset_zone s a b c d e (inr minus) hour colon minute =
    let sign = eqb-true s (code "-") minus in
    record { zone = Behind (pair_value a b) (pair_value d e); proper = (hour.below, minute.below); text_is = cc }

zone_whole : (text : List ℕ) (offset : ℤ) → offset_of text ≡ Some offset → IsZoneText text
unfolding offset_of
zone_whole [] offset p = record { zone = NoZone; proper = tt; text_is = refl }
zone_whole (z ∷ []) offset p = letter_zone z (or_cases _ _ (cond_some _ _ _ p).0)
zone_whole (s ∷ a ∷ b ∷ c ∷ d ∷ e ∷ []) offset p =
    let found = cond_some _ _ _ p in
    let minutes = and_parts _ _ found.0 in
    let colon = and_parts _ _ minutes.0 in
    let hours = and_parts _ _ colon.0 in
    offset_zone s a b c d e (or_cases _ _ hours.0) (IsPair-is_pair_below 24 a b hours.1) (eqb-true c (code ":") colon.1) (IsPair-is_pair_below 60 d e minutes.1)
zone_whole _ offset p = absurd (none-some _ p)

-- the text is a time of day with its zone, or nothing
record IsTimeText (text : List ℕ) : Type 0 where
  time : Time
  proper : IsTime time
  text_is : text ≡ form_time_text time

time_of_fronts : (text after behind : List ℕ) → BeginsWithClock text after → BeginsWithSeconds after behind → IsZoneText behind → IsTimeText text
time_of_fronts text after behind clock seconds zone = record {
  time = TimeOfDay clock.separator clock.hour clock.minute seconds.seconds zone.zone;
  proper = (clock.separator_is, clock.hour_below, clock.minute_below, seconds.proper, zone.proper);
  text_is =
      clock.text_is
      ∙ ap (λ r. clock.separator ∷ (clock_text clock.hour clock.minute ++ r)) (seconds.text_is ∙ ap (λ r. seconds_text seconds.seconds ++ r) zone.text_is);
}

time_whole : (text : List ℕ) (time : ℤ) → time_of text ≡ Some time → IsTimeText text
unfolding time_of
time_whole [] time p = record { time = NoTime; proper = tt; text_is = refl }
time_whole (c ∷ cs) time p =
    option_and_then_some _ (clock_at_front (c ∷ cs)) time p (λ m e q.
    option_and_then_some _ (seconds_at_front m.1) time q (λ s f r.
    option_and_then_some _ (offset_of s.1) time r (λ o g _.
    time_of_fronts (c ∷ cs) m.1 s.1 (clock_front (c ∷ cs) m.1 m.0 e) (seconds_front m.1 s.1 s.0 f) (zone_whole s.1 o g))))

date_is : (d : CivilDate) (number : ℤ) → date_number d ≡ Some number → is_date d ≡ true
unfolding date_number
date_is d number p = (cond_some _ _ _ p).0

form_of_fronts : (text rest : List ℕ) (d : CivilDate) → BeginsWithDate text d rest → is_date d ≡ true → IsTimeText rest → IsFormText text
form_of_fronts text rest d date exists time = record {
  form = record { date = d; time = time.time };
  proper = record { year = date.year; date = exists; time = time.proper };
  is = date.text_is ∙ ap (λ r. date_text d ++ r) time.text_is;
}

pub read_is_form : (text : List ℕ) (n : ℕ) → moment_of text ≡ Some n → IsFormText text
unfolding moment_of
read_is_form text n p =
    option_and_then_some _ (date_at_front text) n p (λ d e q.
    option_and_then_some _ (date_number d.0) n q (λ number f r.
    option_and_then_some _ (time_of d.1) n r (λ time g _.
    form_of_fronts text d.1 d.0 (date_front text d.1 d.0 e) (date_is d.0 number f) (time_whole d.1 time g))))
