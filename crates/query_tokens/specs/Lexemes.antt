-- The tokens of a text as the grammar sees them. The word Timestamp is a keyword, but behind the word System and a
-- point it is a name.
use Rattle.std.specs.Prelude.{ℕ, List, [], ◌∷◌, ◌&&◌, codes, length, slice_range, Bool, true, false, if◌then◌else◌}
use Rattle.grammar_rules.specs.Lexemes.{Lexeme, end_symbol}
use Rattle.query_tokens.specs.declared.lexeme.Before.{Before}
use Rattle.query_tokens.specs.declared.lexeme.Before.TheVariants as before
use Rattle.query_tokens.specs.declared.symbol.Symbol.{Symbol}
use Rattle.query_tokens.specs.declared.symbol.Symbol.TheVariants.{Word, Bracketed, Stamp, Timestamp, Point}
use Rattle.query_tokens.specs.declared.token.Token.{Token}
use Rattle.query_tokens.specs.Symbols.{symbol_of, symbol_number, is_symbol, is_same_word}

abbrev pub bytes_of : List ℕ → Token → List ℕ
bytes_of text token = slice_range text token.start token.end

-- the last tokens are the word System and a point
abbrev pub is_word_point : Before → Bool
is_word_point before.Other = false
is_word_point before.System = false
is_word_point before.SystemName = false
is_word_point before.Point = true
is_word_point before.NamePoint = false

-- the last tokens are the name System, as a word or in brackets, and a point
abbrev pub is_name_point : Before → Bool
is_name_point before.Other = false
is_name_point before.System = false
is_name_point before.SystemName = false
is_name_point before.Point = true
is_name_point before.NamePoint = true

-- the symbol of a token behind others
abbrev pub symbol_behind : Before → Symbol → List ℕ → Symbol
symbol_behind b symbol bytes =
    if is_symbol symbol Timestamp && is_word_point b then Stamp
    else (if is_symbol symbol Bracketed && is_name_point b && is_same_word bytes (codes "[Timestamp]") then Stamp else symbol)

abbrev pub behind_point : Before → Before
behind_point before.Other = before.Other
behind_point before.System = before.Point
behind_point before.SystemName = before.NamePoint
behind_point before.Point = before.Other
behind_point before.NamePoint = before.Other

-- what the tokens up to and with one say about the next
abbrev pub before_next : Before → Symbol → List ℕ → Before
before_next b symbol bytes =
    if is_symbol symbol Word && is_same_word bytes (codes "System") then before.System
    else (if is_symbol symbol Bracketed && is_same_word bytes (codes "[System]") then before.SystemName
    else (if is_symbol symbol Point then behind_point b else before.Other))

-- the end of the text counts as one more token
abbrev pub end_of : List ℕ → Lexeme
end_of text = record { symbol = end_symbol; bytes = []; place = length text }

abbrev pub lexeme_by : Symbol → List ℕ → Token → Lexeme
lexeme_by symbol text token = record { symbol = symbol_number symbol; bytes = bytes_of text token; place = token.start }

abbrev pub symbol_at : Before → List ℕ → Token → Symbol
symbol_at b text token = symbol_behind b (symbol_of token.kind (bytes_of text token)) (bytes_of text token)

-- the tokens behind others
unfoldable pub lexemes_behind : Before → List ℕ → List Token → List Lexeme
lexemes_behind b text [] = end_of text ∷ []
lexemes_behind b text (token ∷ tokens) =
    lexeme_by (symbol_at b text token) text token ∷ lexemes_behind (before_next b (symbol_at b text token) (bytes_of text token)) text tokens

abbrev pub lexemes_of : List ℕ → List Token → List Lexeme
lexemes_of text tokens = lexemes_behind before.Other text tokens
