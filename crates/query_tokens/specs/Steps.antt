-- What a text begins with: bytes that separate tokens, a token of one of the five forms, or neither.
use Rattle.std.specs.Prelude.{ℕ, ◌+◌, ◌-◌, ◌*◌, ◌==◌, ◌<◌, ◌≤◌, ◌&&◌, List, [], ◌∷◌, codes, length, drop, slice_index, Bool, true, false, nat_le, if◌then◌else◌, Option, Some, None, take_while}
use Rattle.std.specs.List.{prefix_len}
use Rattle.query_tokens.specs.declared.step.Step.{Step}
use Rattle.query_tokens.specs.declared.step.Step.TheVariants.{Skip, Token, Stuck}
use Rattle.query_tokens.specs.declared.token.TokenKind.{TokenKind}
use Rattle.query_tokens.specs.declared.token.TokenKind.TheVariants.{Word, Bracketed, Number, Text, Sign}
use Rattle.query_tokens.specs.Bytes.{max_name, max_decimals, max_number, quote, star, dash, point, slash, open_bracket, close_bracket, is_blank, is_in_line, is_digit, is_word_start, is_word_byte, ends_name, is_long_sign, is_short_sign}

-- a token where its form allows so much
abbrev pub token_if : Bool → TokenKind → ℕ → Step
token_if allowed kind size = if allowed then Token kind size else Stuck

-- a word goes as far as its bytes do
unfoldable pub word_step : List ℕ → Step
word_step text = let size = prefix_len is_word_byte text in token_if (nat_le size max_name) Word size

-- where a name in brackets ends, in a text that starts at a place
abbrev pub name_end_from : ℕ → List ℕ → ℕ
name_end_from place [] = place
name_end_from place (b ∷ bs) = if ends_name b (slice_index bs 0) then place else name_end_from (place + 1) bs

-- a name in brackets, behind the first of them
abbrev pub bracketed_by : ℕ → List ℕ → Step
bracketed_by size rest = token_if (nat_le 1 size && nat_le size max_name && slice_index rest size == close_bracket) Bracketed (size + 2)

unfoldable pub bracketed_step : List ℕ → Step
bracketed_step rest = bracketed_by (name_end_from 0 rest) rest

-- the value of digits that follow those of a value
abbrev pub value_from : ℕ → List ℕ → ℕ
value_from value [] = value
value_from value (b ∷ bs) = value_from (10 * value + (b - 48)) bs

-- the value, where a number may have it
abbrev pub bounded : ℕ → Option ℕ
bounded value = if nat_le value max_number then Some value else None

-- the zeros that are missing to six decimals
abbrev pub missing_zeros : List ℕ → List ℕ
missing_zeros decimals = drop (length decimals) (codes "000000")

-- a number in millionths, of its digits before and behind the point
abbrev pub millionths : List ℕ → List ℕ → ℕ
millionths whole decimals = value_from (value_from (value_from 0 whole) decimals) (missing_zeros decimals)

-- digits before and behind a point are a number
abbrev pub is_decimal : List ℕ → List ℕ → Bool
is_decimal whole decimals = nat_le (length decimals) max_decimals && nat_le (millionths whole decimals) max_number

-- the digits behind a point
abbrev pub decimals_of : List ℕ → List ℕ
decimals_of [] = []
decimals_of (b ∷ bs) = if b == point then take_while is_digit bs else []

-- a number of these digits before and behind its point, without a point where there are none behind it
abbrev pub number_by : List ℕ → List ℕ → Step
number_by whole [] = token_if (nat_le (value_from 0 whole) max_number) Number (length whole)
number_by whole (d ∷ ds) = token_if (is_decimal whole (d ∷ ds)) Number (length whole + 1 + length (d ∷ ds))

unfoldable pub number_step : List ℕ → Step
number_step text = let whole = take_while is_digit text in number_by whole (decimals_of (drop (length whole) text))

-- where the quote stands that ends a text which starts at a place: the first one that isn't one of two in a row;
-- the first byte may be the second of two
abbrev pub end_quote_from : Bool → ℕ → List ℕ → Option ℕ
end_quote_from second place [] = None
end_quote_from true place (b ∷ bs) = end_quote_from false (place + 1) bs
end_quote_from false place (b ∷ bs) =
    if b == quote then (if slice_index bs 0 == quote then end_quote_from true (place + 1) bs else Some place)
    else end_quote_from false (place + 1) bs

abbrev pub text_by : Option ℕ → Step
text_by (Some size) = Token Text (size + 2)
text_by None = Stuck

-- a text, behind its first quote
unfoldable pub text_step : List ℕ → Step
text_step rest = text_by (end_quote_from false 0 rest)

-- a sign is as long as it can be
unfoldable pub sign_step : ℕ → List ℕ → Step
sign_step b rest = if is_long_sign b (slice_index rest 0) then Token Sign 2 else token_if (is_short_sign b) Sign 1

-- a comment to the end of the line, behind its first two bytes
unfoldable pub line_comment_step : List ℕ → Step
line_comment_step rest = Skip (2 + prefix_len is_in_line rest)

-- the place of the first `*/` in a text that starts at a place
abbrev pub comment_end_from : ℕ → List ℕ → Option ℕ
comment_end_from place [] = None
comment_end_from place (b ∷ bs) = if b == star && slice_index bs 0 == slash then Some place else comment_end_from (place + 1) bs

abbrev pub comment_by : Option ℕ → Step
comment_by (Some size) = Skip (size + 4)
comment_by None = Stuck

-- a comment to `*/`, behind its first two bytes
unfoldable pub block_comment_step : List ℕ → Step
block_comment_step rest = comment_by (comment_end_from 0 rest)

-- what a first byte that begins no comment begins
abbrev pub plain_step : ℕ → List ℕ → Step
plain_step b rest =
    if is_blank b then Skip 1
    else (if is_word_start b then word_step (b ∷ rest)
    else (if is_digit b then number_step (b ∷ rest)
    else (if b == quote then text_step rest
    else (if b == open_bracket then bracketed_step rest
    else sign_step b rest))))

-- what a text begins with; between tokens `--` and `/*` always begin a comment
abbrev pub step_of : List ℕ → Step
step_of [] = Stuck
step_of (b ∷ rest) =
    if b == dash && slice_index rest 0 == dash then line_comment_step (drop 1 rest)
    else (if b == slash && slice_index rest 0 == star then block_comment_step (drop 1 rest) else plain_step b rest)

-- a step takes a byte or more, and no more than there are
abbrev pub IsStepWithin : ℕ → Step → Type 0
IsStepWithin len (Skip size) = (0 < size) × (size ≤ len)
IsStepWithin len (Token kind size) = (0 < size) × (size ≤ len)
IsStepWithin len Stuck = Unit {0}
