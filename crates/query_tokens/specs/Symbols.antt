-- What a token is to the grammar.
use Rattle.std.specs.Prelude.{ℕ, List, [], ◌∷◌, Bool, map, codes, ◌==◌, if◌then◌else◌}
use Rattle.std.specs.Str.{bytes_eq}
use Rattle.std.specs.Char.{to_ascii_lowercase}
use Rattle.query_tokens.specs.declared.token.TokenKind.{TokenKind}
use Rattle.query_tokens.specs.declared.token.TokenKind.TheVariants as kind
use Rattle.query_tokens.specs.declared.symbol.Symbol.{Symbol}
use Rattle.query_tokens.specs.declared.symbol.Symbol.TheVariants.{EndOfText, With, As, Union, Select, Into, From, Where, Group, By, Having, Timestamp, Over, Inner, Left, Outer, Join, On, Partition, Or, And, Not, Between, In, Like, Is, Null, Case, When, Then, Else, End, Cast, TryCast, Distinct, Word, Bracketed, Stamp, Number, Text, Open, Close, Comma, Point, Semicolon, Star, Plus, Minus, Slash, Percent, Equal, Unequal, Less, LessEqual, Greater, GreaterEqual}

-- two words are equal, without ASCII case
unfoldable pub is_same_word : List ℕ → List ℕ → Bool
is_same_word first second = bytes_eq (map to_ascii_lowercase first) (map to_ascii_lowercase second)

-- the canonical text of a keyword or a sign
abbrev pub fixed_text : Symbol → List ℕ
fixed_text EndOfText = []
fixed_text With = codes "WITH"
fixed_text As = codes "AS"
fixed_text Union = codes "UNION"
fixed_text Select = codes "SELECT"
fixed_text Into = codes "INTO"
fixed_text From = codes "FROM"
fixed_text Where = codes "WHERE"
fixed_text Group = codes "GROUP"
fixed_text By = codes "BY"
fixed_text Having = codes "HAVING"
fixed_text Timestamp = codes "TIMESTAMP"
fixed_text Over = codes "OVER"
fixed_text Inner = codes "INNER"
fixed_text Left = codes "LEFT"
fixed_text Outer = codes "OUTER"
fixed_text Join = codes "JOIN"
fixed_text On = codes "ON"
fixed_text Partition = codes "PARTITION"
fixed_text Or = codes "OR"
fixed_text And = codes "AND"
fixed_text Not = codes "NOT"
fixed_text Between = codes "BETWEEN"
fixed_text In = codes "IN"
fixed_text Like = codes "LIKE"
fixed_text Is = codes "IS"
fixed_text Null = codes "NULL"
fixed_text Case = codes "CASE"
fixed_text When = codes "WHEN"
fixed_text Then = codes "THEN"
fixed_text Else = codes "ELSE"
fixed_text End = codes "END"
fixed_text Cast = codes "CAST"
fixed_text TryCast = codes "TRY_CAST"
fixed_text Distinct = codes "DISTINCT"
fixed_text Word = []
fixed_text Bracketed = []
fixed_text Stamp = []
fixed_text Number = []
fixed_text Text = []
fixed_text Open = codes "("
fixed_text Close = codes ")"
fixed_text Comma = codes ","
fixed_text Point = codes "."
fixed_text Semicolon = codes ";"
fixed_text Star = codes "*"
fixed_text Plus = codes "+"
fixed_text Minus = codes "-"
fixed_text Slash = codes "/"
fixed_text Percent = codes "%"
fixed_text Equal = codes "="
fixed_text Unequal = codes "<>"
fixed_text Less = codes "<"
fixed_text LessEqual = codes "<="
fixed_text Greater = codes ">"
fixed_text GreaterEqual = codes ">="

-- the first of these symbols whose text this is, or another symbol where it is the text of none
unfoldable pub fixed_among : List Symbol → List ℕ → Symbol → Symbol
fixed_among [] text other = other
fixed_among (symbol ∷ symbols) text other = if is_same_word (fixed_text symbol) text then symbol else fixed_among symbols text other

abbrev pub keywords : List Symbol
keywords =
    With ∷ As ∷ Union ∷ Select ∷ Into ∷ From ∷ Where ∷ Group ∷ By ∷ Having ∷ Timestamp ∷ Over ∷
    Inner ∷ Left ∷ Outer ∷ Join ∷ On ∷ Partition ∷ Or ∷ And ∷ Not ∷ Between ∷ In ∷ Like ∷ Is ∷
    Null ∷ Case ∷ When ∷ Then ∷ Else ∷ End ∷ Cast ∷ TryCast ∷ Distinct ∷ []

-- the signs but `<>`, which `!=` is read as
abbrev pub signs : List Symbol
signs =
    Open ∷ Close ∷ Comma ∷ Point ∷ Semicolon ∷ Star ∷ Plus ∷ Minus ∷ Slash ∷ Percent ∷ Equal ∷
    Less ∷ LessEqual ∷ Greater ∷ GreaterEqual ∷ []

-- a word is a keyword, without case, or a plain word
abbrev pub symbol_of : TokenKind → List ℕ → Symbol
symbol_of kind.Word text = fixed_among keywords text Word
symbol_of kind.Bracketed text = Bracketed
symbol_of kind.Number text = Number
symbol_of kind.Text text = Text
symbol_of kind.Sign text = fixed_among signs text Unequal

-- the number of a symbol
abbrev pub symbol_number : Symbol → ℕ
symbol_number EndOfText = 0
symbol_number With = 1
symbol_number As = 2
symbol_number Union = 3
symbol_number Select = 4
symbol_number Into = 5
symbol_number From = 6
symbol_number Where = 7
symbol_number Group = 8
symbol_number By = 9
symbol_number Having = 10
symbol_number Timestamp = 11
symbol_number Over = 12
symbol_number Inner = 13
symbol_number Left = 14
symbol_number Outer = 15
symbol_number Join = 16
symbol_number On = 17
symbol_number Partition = 18
symbol_number Or = 19
symbol_number And = 20
symbol_number Not = 21
symbol_number Between = 22
symbol_number In = 23
symbol_number Like = 24
symbol_number Is = 25
symbol_number Null = 26
symbol_number Case = 27
symbol_number When = 28
symbol_number Then = 29
symbol_number Else = 30
symbol_number End = 31
symbol_number Cast = 32
symbol_number TryCast = 33
symbol_number Distinct = 34
symbol_number Word = 35
symbol_number Bracketed = 36
symbol_number Stamp = 37
symbol_number Number = 38
symbol_number Text = 39
symbol_number Open = 40
symbol_number Close = 41
symbol_number Comma = 42
symbol_number Point = 43
symbol_number Semicolon = 44
symbol_number Star = 45
symbol_number Plus = 46
symbol_number Minus = 47
symbol_number Slash = 48
symbol_number Percent = 49
symbol_number Equal = 50
symbol_number Unequal = 51
symbol_number Less = 52
symbol_number LessEqual = 53
symbol_number Greater = 54
symbol_number GreaterEqual = 55

abbrev pub is_symbol : Symbol → Symbol → Bool
is_symbol a b = symbol_number a == symbol_number b
