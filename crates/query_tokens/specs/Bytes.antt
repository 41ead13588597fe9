-- The bytes that the forms of tokens speak of, and the limits on their lengths and values.
use Rattle.std.specs.Prelude.{ℕ, ◌==◌, ◌&&◌, ◌||◌, Bool, not, nat_le}

abbrev pub max_text : ℕ
max_text = 65536

abbrev pub max_name : ℕ
max_name = 64

abbrev pub max_decimals : ℕ
max_decimals = 6

-- the greatest value of a number, also in millionths
abbrev pub max_number : ℕ
max_number = 9223372036854775807

abbrev pub quote : ℕ
quote = 39

abbrev pub star : ℕ
star = 42

abbrev pub dash : ℕ
dash = 45

abbrev pub point : ℕ
point = 46

abbrev pub slash : ℕ
slash = 47

abbrev pub open_bracket : ℕ
open_bracket = 91

abbrev pub close_bracket : ℕ
close_bracket = 93

abbrev pub line_feed : ℕ
line_feed = 10

-- space, tab, carriage return and line feed
abbrev pub is_blank : ℕ → Bool
is_blank b = b == 32 || b == 9 || b == 13 || b == line_feed

abbrev pub is_in_line : ℕ → Bool
is_in_line b = not (b == line_feed)

abbrev pub is_digit : ℕ → Bool
is_digit b = nat_le 48 b && nat_le b 57

abbrev pub is_letter : ℕ → Bool
is_letter b = (nat_le 65 b && nat_le b 90) || (nat_le 97 b && nat_le b 122)

-- a word is `[A-Za-z_][A-Za-z0-9_]*`
abbrev pub is_word_start : ℕ → Bool
is_word_start b = is_letter b || b == 95

abbrev pub is_word_byte : ℕ → Bool
is_word_byte b = is_word_start b || is_digit b

-- a control of one byte, or the first byte and the second of one of two bytes (U+0080 to U+009F)
abbrev pub is_control : ℕ → ℕ → Bool
is_control b next = nat_le b 31 || b == 127 || (b == 194 && nat_le next 159)

-- a bracketed name goes on to a `]` or a control
abbrev pub ends_name : ℕ → ℕ → Bool
ends_name b next = b == close_bracket || is_control b next

-- `<> != <= >=`
abbrev pub is_long_sign : ℕ → ℕ → Bool
is_long_sign b next = (b == 60 && (next == 62 || next == 61)) || ((b == 33 || b == 62) && next == 61)

-- `( ) , . ; * + - / % = < >`
abbrev pub is_short_sign : ℕ → Bool
is_short_sign b = (nat_le 40 b && nat_le b 47) || b == 37 || (nat_le 59 b && nat_le b 62)
