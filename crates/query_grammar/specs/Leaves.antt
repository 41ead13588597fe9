-- What names, numbers and texts of a query stand for.
use Rattle.std.specs.Prelude.{ℕ, ◌-◌, ◌==◌, ℤ, pos, List, [], ◌∷◌, length, drop, slice_index, slice_range, Bool, true, false, nat_le, if◌then◌else◌, Option, None, unwrap_or, take_while}
use Rattle.grammar_rules.specs.Lexemes.{Lexeme}
use Rattle.query_tokens.specs.Bytes.{quote, open_bracket, max_decimals, is_digit}
use Rattle.query_tokens.specs.Steps.{value_from, millionths, bounded, decimals_of}
use Rattle.query_tree.specs.declared.name.Name.{Name}
use Rattle.query_tree.specs.declared.name.Number.{Number}
use Rattle.query_tree.specs.declared.name.Number.TheVariants.{Whole, Decimal}

-- the bytes between the first and the last
abbrev pub inner_bytes : List ℕ → List ℕ
inner_bytes bytes = slice_range bytes 1 (length bytes - 1)

-- a name without its brackets
unfoldable pub name_text : List ℕ → List ℕ
name_text bytes = if slice_index bytes 0 == open_bracket then inner_bytes bytes else bytes

abbrev pub name_of : Lexeme → Name
name_of t = record { place = t.place; text = name_text t.bytes }

-- a text in which two quotes in a row stand for one; the byte before the first may be the first of two
abbrev pub undoubled : Bool → List ℕ → List ℕ
undoubled second [] = []
undoubled true (b ∷ bs) = undoubled false bs
undoubled false (b ∷ bs) = b ∷ undoubled (b == quote) bs

-- a text without its quotes
unfoldable pub text_content : List ℕ → List ℕ
text_content bytes = undoubled false (inner_bytes bytes)

-- the value of a number; each number of a query has one
abbrev pub value_or_zero : Option ℕ → ℤ
value_or_zero value = pos (unwrap_or value 0)

-- the value in millionths of a number with these digits before and behind its point
abbrev pub decimal_value : List ℕ → List ℕ → Option ℕ
decimal_value whole decimals = if nat_le (length decimals) max_decimals then bounded (millionths whole decimals) else None

-- a number of these digits before and behind its point, without a point where there are none behind it
abbrev pub number_by : List ℕ → List ℕ → Number
number_by whole [] = Whole (value_or_zero (bounded (value_from 0 whole)))
number_by whole (d ∷ ds) = Decimal (value_or_zero (decimal_value whole (d ∷ ds)))

unfoldable pub number_of : List ℕ → Number
number_of bytes = let whole = take_while is_digit bytes in number_by whole (decimals_of (drop (length whole) bytes))
