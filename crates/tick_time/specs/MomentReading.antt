-- What the text of a moment means: a date, and behind it nothing, or a time of day with its zone.
use Rattle.std.specs.Prelude.{ℕ, ◌+◌, ◌-◌, ◌*◌, ◌/◌, ◌&&◌, ◌||◌, ◌==◌, nat_le, nat_lt, Bool, List, [], ◌∷◌, length, drop, take_while, Option, Some, None, option_map, option_and_then, if◌then◌else◌, ℤ, pos, neg_ℤ, ◌+ℤ◌, ◌-ℤ◌, ◌*ℤ◌}
use Rattle.tick_time.specs.Moment.{moment_below_limit}
use Rattle.tick_time.specs.Ticks.{day_ticks, hour_ticks, minute_ticks, second_ticks}
use Prim.Native.Char.{code}
use Rattle.tick_time.specs.declared.civil_date.CivilDate.{CivilDate}
use Rattle.tick_time.specs.Calendar.{date_number}

-- a decimal digit
abbrev pub is_digit : ℕ → Bool
is_digit b = nat_le (code "0") b && nat_le b (code "9")

-- the number that a digit spells
abbrev pub digit_value : ℕ → ℕ
digit_value b = b - code "0"

-- the number that two digits spell
abbrev pub pair_value : ℕ → ℕ → ℕ
pair_value a b = digit_value a * 10 + digit_value b

-- two digits that spell a number below n
abbrev pub is_pair_below : ℕ → ℕ → ℕ → Bool
is_pair_below n a b = is_digit a && is_digit b && nat_lt (pair_value a b) n

-- YYYY-MM-DD: the date that it names, and what stands behind it
unfoldable pub date_at_front : List ℕ → Option (CivilDate × List ℕ)
date_at_front (a ∷ b ∷ c ∷ d ∷ p ∷ e ∷ f ∷ q ∷ g ∷ h ∷ rest) =
    let date : CivilDate = record {
      year = pair_value a b * 100 + pair_value c d;
      month = pair_value e f;
      day = pair_value g h;
    } in
    if is_pair_below 100 a b && is_pair_below 100 c d && (p == code "-")
    && is_pair_below 100 e f && (q == code "-") && is_pair_below 100 g h
    then Some (date, rest) else None
date_at_front _ = None

-- what stands between a date and a time
abbrev pub is_separator : ℕ → Bool
is_separator b = (b == code "T") || (b == code "t") || (b == code " ")

-- a separator and HH:MM: the ticks since midnight, and what stands behind it
unfoldable pub clock_at_front : List ℕ → Option (ℕ × List ℕ)
clock_at_front (s ∷ a ∷ b ∷ p ∷ c ∷ d ∷ rest) =
    if is_separator s && is_pair_below 24 a b && (p == code ":") && is_pair_below 60 c d
    then Some (pair_value a b * hour_ticks + pair_value c d * minute_ticks, rest)
    else None
clock_at_front _ = None

-- the ticks of a fraction's digits, of which the first counts `place`: one below a tick counts 0
abbrev pub fraction_ticks : List ℕ → ℕ → ℕ
fraction_ticks [] place = 0
fraction_ticks (d ∷ ds) place = digit_value d * place + fraction_ticks ds (place / 10)

-- a point with 1 to 9 digits, or nothing: its ticks, and what stands behind it
unfoldable pub fraction_at_front : List ℕ → Option (ℕ × List ℕ)
fraction_at_front [] = Some (0, [])
fraction_at_front (c ∷ rest) =
    let digits = take_while is_digit rest in
    if c == code "." then
    (if nat_le 1 (length digits) && nat_le (length digits) 9
    then Some (fraction_ticks digits (second_ticks / 10), drop (length digits) rest) else None)
    else Some (0, c ∷ rest)

-- SS with its fraction: the ticks since the minute, and what stands behind it
unfoldable pub second_at_front : List ℕ → Option (ℕ × List ℕ)
second_at_front (a ∷ b ∷ rest) =
    if is_pair_below 60 a b
    then option_map (λ (f : ℕ × List ℕ). (pair_value a b * second_ticks + f.0, f.1))
    (fraction_at_front rest)
    else None
second_at_front _ = None

-- :SS with its fraction, or nothing
unfoldable pub seconds_at_front : List ℕ → Option (ℕ × List ℕ)
seconds_at_front [] = Some (0, [])
seconds_at_front (c ∷ rest) = if c == code ":" then second_at_front rest else Some (0, c ∷ rest)

-- the ticks that a zone is ahead: of nothing, Z, z, or a sign and HH:MM
unfoldable pub offset_of : List ℕ → Option ℤ
offset_of [] = Some (pos 0)
offset_of (z ∷ []) = if (z == code "Z") || (z == code "z") then Some (pos 0) else None
offset_of (s ∷ a ∷ b ∷ p ∷ c ∷ d ∷ []) =
    let ticks = pair_value a b * hour_ticks + pair_value c d * minute_ticks in
    if ((s == code "+") || (s == code "-"))
    && is_pair_below 24 a b && (p == code ":") && is_pair_below 60 c d
    then Some (if s == code "+" then pos ticks else neg_ℤ (pos ticks))
    else None
offset_of _ = None

-- the ticks since midnight in UTC that stand behind a date: an offset is subtracted
unfoldable pub time_of : List ℕ → Option ℤ
time_of [] = Some (pos 0)
time_of (c ∷ cs) =
    option_and_then (λ (m : ℕ × List ℕ).
    option_and_then (λ (s : ℕ × List ℕ).
    option_and_then (λ (offset : ℤ). Some (pos (m.0 + s.0) -ℤ offset))
    (offset_of s.1)) (seconds_at_front m.1)) (clock_at_front (c ∷ cs))

-- the moment that a text names
unfoldable pub moment_of : List ℕ → Option ℕ
moment_of text =
    option_and_then (λ (d : CivilDate × List ℕ).
    option_and_then (λ (number : ℤ).
    option_and_then (λ (time : ℤ). moment_below_limit (number *ℤ pos day_ticks +ℤ time))
    (time_of d.1)) (date_number d.0)) (date_at_front text)
