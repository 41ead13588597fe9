-- Single symbols, names, paths and lists with commas.
use Rattle.std.specs.Prelude.{ℕ, List, [], ◌∷◌, Bool, Option}
use Rattle.grammar_rules.specs.Lexemes.{Lexeme}
use Rattle.grammar_rules.specs.Rules.{Grammar, token, flag, both, tree, perhaps, repeated, opened}
use Rattle.query_tokens.specs.declared.symbol.Symbol.{Symbol}
use Rattle.query_tokens.specs.declared.symbol.Symbol.TheVariants.{Word, Bracketed, Stamp, Comma, Point, Open, Close}
use Rattle.query_tokens.specs.Symbols.{symbol_number}
use Rattle.query_tree.specs.declared.name.Name.{Name}
use Rattle.query_tree.specs.declared.name.Path.{Path}
use Rattle.query_tree.specs.declared.name.TypeName.{TypeName}
use Rattle.query_grammar.specs.Leaves.{name_of}

-- the numbers of symbols
abbrev pub set_of : List Symbol → List ℕ
set_of [] = []
set_of (symbol ∷ symbols) = symbol_number symbol ∷ set_of symbols

abbrev pub one : Symbol → List ℕ
one symbol = symbol_number symbol ∷ []

-- a fixed word or sign
abbrev pub fixed : Symbol → Grammar Lexeme
fixed symbol = token (one symbol)

-- whether a word that may be absent is there
abbrev pub flagged : Symbol → Grammar Bool
flagged symbol = flag (one symbol)

-- part {"," part}
abbrev pub second_of : {A B : Type 0} → A × B → B
second_of pair = pair.1

abbrev pub listed : {A : Type 0} → Grammar A → Grammar (A × List A)
listed part = both part (repeated (tree second_of (both (fixed Comma) part)))

-- a word that isn't a keyword, or a name in brackets
abbrev pub name_symbols : List ℕ
name_symbols = set_of (Word ∷ Bracketed ∷ [])

unfoldable pub name : Grammar Name
name = tree name_of (token name_symbols)

-- behind a point also the name Timestamp of `System.Timestamp`
abbrev pub part_symbols : List ℕ
part_symbols = set_of (Word ∷ Bracketed ∷ Stamp ∷ [])

unfoldable pub name_part : Grammar Name
name_part = tree name_of (token part_symbols)

-- "." name
unfoldable pub second_name : Grammar Name
second_name = tree second_of (both (fixed Point) name_part)

abbrev pub path_from : Name × Option Name → Path
path_from parts = record { place = parts.0.place; first = parts.0; second = parts.1 }

-- path = name ["." name]
unfoldable pub path : Grammar Path
path = tree path_from (both name (perhaps second_name))

abbrev pub size_from : Lexeme × (Lexeme × Lexeme) → Name
size_from parts = name_of parts.1.0

-- "(" word ")", where so many openings are left
unfoldable pub type_size : ℕ → Grammar Name
type_size left = tree size_from (opened left (one Open) (both (fixed Word) (fixed Close)))

abbrev pub type_from : Lexeme × Option Name → TypeName
type_from parts = record { place = parts.0.place; word = name_of parts.0; size = parts.1 }

-- type = word ["(" word ")"]
unfoldable pub type_name : ℕ → Grammar TypeName
type_name left = tree type_from (both (fixed Word) (perhaps (type_size left)))
