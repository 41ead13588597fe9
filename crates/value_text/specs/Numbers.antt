-- Numbers of 64 bits: whole ones, and decimal ones in millionths; and the numbers that texts spell.
use Rattle.std.specs.Prelude.{ℕ, ◌+◌, ◌*◌, Bool, true, false, ◌&&◌, ◌||◌, ◌==◌, nat_le, if◌then◌else◌, ℤ, pos, negsuc, neg_ℤ, int_le, List, [], ◌∷◌, take, drop, length, codes, Option, Some, None}
use Rattle.std.specs.List.{prefix_len}
use Prim.Native.Char.{code}
use Rattle.tick_time.specs.MomentReading.{is_digit, digit_value}
use Rattle.event_value.specs.declared.value.Value.{Value}
use Rattle.event_value.specs.declared.value.Value.TheVariants.{Null, Big, Fixed}

-- the limits of numbers of 64 bits
abbrev pub least_number : ℤ
least_number = negsuc 9_223_372_036_854_775_807

abbrev pub greatest_number : ℤ
greatest_number = pos 9_223_372_036_854_775_807

abbrev pub is_number : ℤ → Bool
is_number n = int_le least_number n && int_le n greatest_number

-- a whole number, Null where 64 bits don't hold it
abbrev pub whole_value : ℤ → Value
whole_value n = if is_number n then Big n else Null

-- a number of millionths, Null where 64 bits don't hold it
abbrev pub fixed_value : ℤ → Value
fixed_value n = if is_number n then Fixed n else Null

-- the value of digits that follow those of a value
abbrev pub value_from : ℕ → List ℕ → ℕ
value_from value [] = value
value_from value (b ∷ bs) = value_from (10 * value + digit_value b) bs

-- the greatest number without its sign
abbrev pub greatest_size : ℕ
greatest_size = 9_223_372_036_854_775_808

-- the size, where a number may have it
abbrev pub bounded : ℕ → Option ℕ
bounded size = if nat_le size greatest_size then Some size else None

-- how many digits a whole number has at most
abbrev pub most_digits : ℕ
most_digits = 19

-- how many digits behind the point count
abbrev pub most_decimals : ℕ
most_decimals = 6

-- nothing but digits
abbrev pub are_digits : List ℕ → Bool
are_digits text = nat_le 1 (length text) && (prefix_len is_digit text == length text)

-- digits of a whole number
abbrev pub is_whole_text : List ℕ → Bool
is_whole_text text = are_digits text && nat_le (length text) most_digits

-- nothing, or a point and digits
abbrev pub is_fraction_text : List ℕ → Bool
is_fraction_text [] = true
is_fraction_text (b ∷ bs) = (b == code ".") && are_digits bs

-- digits, and behind them nothing, or a point and digits
abbrev pub is_fixed_text : List ℕ → Bool
is_fixed_text text = nat_le 1 (prefix_len is_digit text) && is_fraction_text (drop (prefix_len is_digit text) text)

-- the digits behind a point that count
abbrev pub decimals_of : List ℕ → List ℕ
decimals_of [] = []
decimals_of (b ∷ bs) = take most_decimals bs

-- the zeros that are missing to six decimals
abbrev pub missing_zeros : List ℕ → List ℕ
missing_zeros decimals = drop (length decimals) (codes "000000")

-- a number in millionths, of its digits before and behind the point
abbrev pub millionths : List ℕ → List ℕ → ℕ
millionths whole decimals = value_from (value_from (value_from 0 whole) decimals) (missing_zeros decimals)

-- a number in millionths, of its whole text
abbrev pub millionths_of : List ℕ → ℕ
millionths_of text =
    millionths (take (prefix_len is_digit text) text) (decimals_of (drop (prefix_len is_digit text) text))

abbrev pub is_negative : List ℕ → Bool
is_negative [] = false
is_negative (b ∷ bs) = b == code "-"

abbrev pub is_sign : ℕ → Bool
is_sign b = (b == code "-") || (b == code "+")

-- what stands behind the sign, where there is one
abbrev pub after_sign : List ℕ → List ℕ
after_sign [] = []
after_sign (b ∷ bs) = if is_sign b then bs else b ∷ bs

-- a number of this size
abbrev pub signed : Bool → ℕ → ℤ
signed negative size = if negative then neg_ℤ (pos size) else pos size

-- the whole number of this size, if it has one
abbrev pub signed_whole : Bool → Option ℕ → Value
signed_whole negative None = Null
signed_whole negative (Some size) = whole_value (signed negative size)

-- the decimal number of this size, if it has one
abbrev pub signed_fixed : Bool → Option ℕ → Value
signed_fixed negative None = Null
signed_fixed negative (Some size) = fixed_value (signed negative size)

-- the whole number that a text spells: a sign or none, and 1 to 19 digits
unfoldable pub whole_of_text : List ℕ → Value
whole_of_text text =
    if is_whole_text (after_sign text)
    then signed_whole (is_negative text) (bounded (value_from 0 (after_sign text)))
    else Null

-- the decimal number that a text spells: a sign or none, digits, and a point and digits or nothing
unfoldable pub fixed_of_text : List ℕ → Value
fixed_of_text text =
    if is_fixed_text (after_sign text)
    then signed_fixed (is_negative text) (bounded (millionths_of (after_sign text)))
    else Null
