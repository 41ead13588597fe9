-- The words of a query, and the text in which they stand behind each other: how each is written, and where a space stands.
use Rattle.std.specs.Prelude.{ℕ, ◌==◌, ◌&&◌, ◌||◌, Bool, true, false, if◌then◌else◌, List, [], ◌∷◌, ◌++◌, codes, ℤ, pos, int_rem}
use Rattle.std.specs.List.{flat_map, list_all}
use Rattle.std.specs.Ordering.{int_eq}
use Rattle.value_text.specs.Printed.{value_text, million}
use Rattle.event_value.specs.declared.value.Value.TheVariants.{Big, Fixed as fixed_value}
use Rattle.query_tokens.specs.declared.symbol.Symbol.{Symbol}
use Rattle.query_tokens.specs.declared.symbol.Symbol.TheVariants as symbol
use Rattle.query_tokens.specs.declared.token.TokenKind.TheVariants as kind
use Rattle.query_tokens.specs.Bytes.{quote, open_bracket, close_bracket, is_word_start, is_word_byte}
use Rattle.query_tokens.specs.Symbols.{fixed_text, symbol_of, is_symbol, is_same_word}
use Rattle.query_tree.specs.declared.name.Number.{Number}
use Rattle.query_tree.specs.declared.name.Number.TheVariants.{Whole, Decimal}
use Rattle.query_print.specs.declared.behind.Behind.{Behind}
use Rattle.query_print.specs.declared.behind.Behind.TheVariants as behind

-- a keyword or a sign, a name, a number, or a text
pub data Word : Type 0 where
  Fixed : Symbol → Word
  Named : List ℕ → Word
  Numbered : Number → Word
  Quoted : List ℕ → Word

-- ---- what stands before a word

-- behind a point
abbrev pub behind_point : Behind → Behind
behind_point behind.System = behind.StampPoint
behind_point _ = behind.Point

-- behind a keyword or a sign
abbrev pub behind_fixed : Behind → Symbol → Behind
behind_fixed b s =
    if is_symbol s symbol.Open then behind.Open
    else (if is_symbol s symbol.Point then behind_point b
    else (if is_symbol s symbol.Cast || is_symbol s symbol.TryCast then behind.Called else behind.Other))

-- behind a name
abbrev pub behind_name : List ℕ → Behind
behind_name name = if is_same_word name (codes "System") then behind.System else behind.Called

-- behind a word
abbrev pub behind_word : Behind → Word → Behind
behind_word b (Fixed s) = behind_fixed b s
behind_word b (Named name) = behind_name name
behind_word b (Numbered number) = behind.Other
behind_word b (Quoted text) = behind.Other

-- ---- spaces

-- no space stands behind an opening parenthesis or a point, nor before the first word
abbrev pub is_tight_behind : Behind → Bool
is_tight_behind behind.Start = true
is_tight_behind behind.Open = true
is_tight_behind behind.Point = true
is_tight_behind behind.StampPoint = true
is_tight_behind behind.System = false
is_tight_behind behind.Called = false
is_tight_behind behind.Other = false

-- no space stands between a called name, CAST, TRY_CAST or a type word and its parenthesis
abbrev pub is_called : Behind → Bool
is_called behind.System = true
is_called behind.Called = true
is_called _ = false

-- nor before one of `, ) . ;`
abbrev pub is_tight_sign : Symbol → Bool
is_tight_sign s =
    is_symbol s symbol.Comma || is_symbol s symbol.Close || is_symbol s symbol.Point || is_symbol s symbol.Semicolon

abbrev pub is_tight_fixed : Behind → Symbol → Bool
is_tight_fixed b s = is_tight_behind b || is_tight_sign s || (is_symbol s symbol.Open && is_called b)

-- no space stands between a word and what is before it
abbrev pub is_tight : Behind → Word → Bool
is_tight b (Fixed s) = is_tight_fixed b s
is_tight b (Named name) = is_tight_behind b
is_tight b (Numbered number) = is_tight_behind b
is_tight b (Quoted text) = is_tight_behind b

abbrev pub space_unless : Bool → List ℕ
space_unless tight = if tight then [] else codes " "

-- ---- how a word is written

-- `[A-Za-z_][A-Za-z0-9_]*`
abbrev pub is_word : List ℕ → Bool
is_word [] = false
is_word (b ∷ bs) = is_word_start b && list_all is_word_byte bs

-- a word that isn't a keyword
unfoldable pub is_plain : List ℕ → Bool
is_plain name = is_word name && is_symbol (symbol_of kind.Word name) symbol.Word

abbrev pub is_behind_stamp_point : Behind → Bool
is_behind_stamp_point behind.StampPoint = true
is_behind_stamp_point _ = false

-- a plain word needs no brackets, nor does Timestamp behind System and a point
abbrev pub is_bare : Behind → List ℕ → Bool
is_bare b name = is_plain name || (is_behind_stamp_point b && is_same_word name (codes "Timestamp"))

abbrev pub bracketed : List ℕ → List ℕ
bracketed name = open_bracket ∷ name ++ close_bracket ∷ []

unfoldable pub name_text : Behind → List ℕ → List ℕ
name_text b name = if is_bare b name then name else bracketed name

-- the digit behind the point of a number that has no other
abbrev pub zero_behind_point : ℤ → List ℕ
zero_behind_point n = if int_eq (int_rem n (pos million)) (pos 0) then codes ".0" else []

-- a number without leading zeros, and with no zeros at its end but for one right behind a point
unfoldable pub number_text : Number → List ℕ
number_text (Whole n) = value_text (Big n)
number_text (Decimal n) = value_text (fixed_value n) ++ zero_behind_point n

-- a quote in a text stands twice
abbrev pub doubled : ℕ → List ℕ
doubled b = if b == quote then quote ∷ quote ∷ [] else b ∷ []

abbrev pub quoted : List ℕ → List ℕ
quoted text = quote ∷ flat_map doubled text ++ quote ∷ []

abbrev pub word_text : Behind → Word → List ℕ
word_text b (Fixed s) = fixed_text s
word_text b (Named name) = name_text b name
word_text b (Numbered number) = number_text number
word_text b (Quoted text) = quoted text

-- ---- a text

-- a text with what its last words are to the next one
pub record Written : Type 0 where
  pub bytes : List ℕ
  pub last : Behind

-- one more word
unfoldable pub with_word : Written → Word → Written
with_word w word = record {
  bytes = (w.bytes ++ space_unless (is_tight w.last word)) ++ word_text w.last word;
  last = behind_word w.last word;
}

-- and further ones
abbrev pub with_words : Written → List Word → Written
with_words w [] = w
with_words w (word ∷ words) = with_words (with_word w word) words

abbrev pub nothing_written : Written
nothing_written = record { bytes = []; last = behind.Start }

-- the text of words
unfoldable pub text_of : List Word → List ℕ
text_of words = (with_words nothing_written words).bytes
