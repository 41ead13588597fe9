-- The printed form of values, rows and dropped records: one JSON object without spaces.
use Rattle.std.specs.Prelude.{ℕ, ◌+◌, ◌/◌, ◌%◌, ◌==◌, List, [], ◌∷◌, ◌++◌, true, false, nat_lt, if◌then◌else◌, codes, ℤ, pos, negsuc}
use Rattle.std.specs.List.{flat_map, zip}
use Rattle.std.specs.Fmt.{decimal, signed_decimal}
use Rattle.event_value.specs.declared.record.Dropped.{Dropped}
use Rattle.event_value.specs.declared.record.Rule.{Rule}
use Rattle.event_value.specs.declared.record.Rule.TheVariants.{Syntax, Enqueued, Number, Field, Long, Damaged, SegmentTooLong, NoTime, Early, Late, Disorder}
use Rattle.event_value.specs.declared.value.Value.{Value}
use Rattle.event_value.specs.declared.value.Value.TheVariants.{Null, Bit, Big, Fixed, Text, Moment}
use Rattle.tick_time.specs.MomentText.{moment_text, digit}

-- the bytes that texts and objects are written with
abbrev pub quote : ℕ
quote = 34

abbrev pub backslash : ℕ
backslash = 92

abbrev pub comma : ℕ
comma = 44

abbrev pub colon : ℕ
colon = 58

abbrev pub opening_brace : ℕ
opening_brace = 123

abbrev pub closing_brace : ℕ
closing_brace = 125

-- a digit of a number to the base 16, in lower case
abbrev pub hex_digit : ℕ → ℕ
hex_digit n = if nat_lt n 10 then 48 + n else 87 + n

-- a byte below 32 with a short form
abbrev pub short_escape : ℕ → List ℕ → List ℕ
short_escape b other =
    if b == 8 then codes "\\b" else (if b == 9 then codes "\\t" else (if b == 10 then codes "\\n"
    else (if b == 12 then codes "\\f" else (if b == 13 then codes "\\r" else other))))

-- a byte below 32 by its number
abbrev pub unicode_escape : ℕ → List ℕ
unicode_escape b = codes "\\u00" ++ hex_digit (b / 16) ∷ hex_digit (b % 16) ∷ []

-- a byte within quotes: a quote, a backslash and the bytes below 32 are escaped
abbrev pub escaped : ℕ → List ℕ
escaped b =
    if b == quote then codes "\\\"" else (if b == backslash then codes "\\\\"
    else short_escape b (if nat_lt b 32 then unicode_escape b else b ∷ []))

-- a text in quotes
abbrev pub quoted : List ℕ → List ℕ
quoted bytes = quote ∷ flat_map escaped bytes ++ quote ∷ []

-- how many millionths make one
abbrev pub million : ℕ
million = 1_000_000

-- the places of the digits behind the point, in millionths
abbrev pub places_behind_point : List ℕ
places_behind_point = 100_000 ∷ 10_000 ∷ 1_000 ∷ 100 ∷ 10 ∷ 1 ∷ []

-- the digits of n at these places, without the zeros at the end
abbrev pub fraction_digits : List ℕ → ℕ → List ℕ
fraction_digits [] n = []
fraction_digits (place ∷ places) n = if n == 0 then [] else digit n place ∷ fraction_digits places (n % place)

-- a point and the digits behind it, where there is one that isn't zero
abbrev pub fraction_text : ℕ → List ℕ
fraction_text n = if n == 0 then [] else 46 ∷ fraction_digits places_behind_point n

-- a decimal number without a sign
abbrev pub unsigned_fixed_text : ℕ → List ℕ
unsigned_fixed_text n = decimal (n / million) ++ fraction_text (n % million)

-- a decimal number
abbrev pub fixed_text : ℤ → List ℕ
fixed_text (pos n) = unsigned_fixed_text n
fixed_text (negsuc n) = 45 ∷ unsigned_fixed_text (1 + n)

-- a value
abbrev pub value_text : Value → List ℕ
value_text Null = codes "null"
value_text (Bit true) = codes "1"
value_text (Bit false) = codes "0"
value_text (Big n) = signed_decimal n
value_text (Fixed m) = fixed_text m
value_text (Text t) = quoted t
value_text (Moment m) = quote ∷ moment_text m ++ quote ∷ []

-- a column of a row
abbrev pub member : List ℕ → Value → List ℕ
member name value = quoted name ++ colon ∷ value_text value

-- the columns behind the first
abbrev pub further_members : List (List ℕ) → List Value → List ℕ
further_members names values = flat_map (λ column. comma ∷ member column.0 column.1) (zip names values)

-- a row
abbrev pub row_text : List (List ℕ) → List Value → List ℕ
row_text [] values = codes "{}"
row_text (name ∷ names) [] = codes "{}"
row_text (name ∷ names) (value ∷ values) =
    opening_brace ∷ member name value ++ further_members names values ++ closing_brace ∷ []

-- a rule
abbrev pub rule_name : Rule → List ℕ
rule_name Syntax = codes "Syntax"
rule_name Enqueued = codes "Enqueued"
rule_name Number = codes "Number"
rule_name Field = codes "Field"
rule_name Long = codes "Long"
rule_name Damaged = codes "Damaged"
rule_name SegmentTooLong = codes "SegmentTooLong"
rule_name NoTime = codes "NoTime"
rule_name Early = codes "Early"
rule_name Late = codes "Late"
rule_name Disorder = codes "Disorder"

-- a further member with a number
unfoldable pub numbered : List ℕ → ℕ → List ℕ
numbered word n = codes ",\"" ++ word ++ codes "\":" ++ decimal n

-- where a dropped record stood
abbrev pub place_text : Dropped → List ℕ
place_text dropped =
    numbered (codes "partition") dropped.partition ++ numbered (codes "segment") dropped.segment ++ numbered (codes "index") dropped.index

-- by which rule a record was dropped
abbrev pub rule_text : Rule → List ℕ
rule_text rule = codes ",\"rule\":\"" ++ rule_name rule ++ codes "\"}"

-- a dropped record of the input of this name
abbrev pub dropped_text : List ℕ → Dropped → List ℕ
dropped_text input dropped = codes "{\"input\":" ++ quoted input ++ place_text dropped ++ rule_text dropped.rule
