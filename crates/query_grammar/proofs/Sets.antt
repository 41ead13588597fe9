-- Which symbols may go on with a whole of a grammar, and which no token has.
use Rattle.std.proofs.Common.{◌≡◌, ℕ, List, [], ◌∷◌, ◌++◌, Bool, false, refl, ap, ◌∙◌}
use Rattle.std.specs.Prelude.{◌==◌, ◌||◌}
use Rattle.grammar_rules.specs.Lexemes.{among, no_symbol}
use Rattle.query_tokens.specs.declared.symbol.Symbol.{Symbol}
use Rattle.query_tokens.specs.Symbols.{symbol_number}
use Rattle.query_tokens.specs.declared.symbol.Symbol.TheVariants as symbol
use Rattle.query_grammar.specs.Lists.{set_of, one}
use Rattle.query_grammar.specs.ExpressionGrammar.{prod_symbols, sum_symbols}
use Rattle.query_grammar.specs.Reading.{rest_symbols, alias_symbols, join_symbols}

abbrev pub path_goes_on : List ℕ
path_goes_on = one symbol.Point

abbrev pub paths_go_on : List ℕ
paths_go_on = path_goes_on ++ one symbol.Comma

abbrev pub unary_goes_on : List ℕ
unary_goes_on = one symbol.Open ++ path_goes_on

abbrev pub prod_goes_on : List ℕ
prod_goes_on = unary_goes_on ++ prod_symbols

abbrev pub sum_goes_on : List ℕ
sum_goes_on = prod_goes_on ++ sum_symbols

abbrev pub pred_goes_on : List ℕ
pred_goes_on = sum_goes_on ++ rest_symbols

abbrev pub and_goes_on : List ℕ
and_goes_on = pred_goes_on ++ one symbol.And

abbrev pub expr_goes_on : List ℕ
expr_goes_on = and_goes_on ++ one symbol.Or

abbrev pub exprs_go_on : List ℕ
exprs_go_on = expr_goes_on ++ one symbol.Comma

abbrev pub stamp_goes_on : List ℕ
stamp_goes_on = expr_goes_on ++ (one symbol.Over ++ paths_go_on)

abbrev pub source_goes_on : List ℕ
source_goes_on = stamp_goes_on ++ (alias_symbols ++ one symbol.Timestamp)

abbrev pub item_goes_on : List ℕ
item_goes_on = expr_goes_on ++ alias_symbols

abbrev pub items_go_on : List ℕ
items_go_on = item_goes_on ++ one symbol.Comma

abbrev pub group_goes_on : List ℕ
group_goes_on = expr_goes_on ++ one symbol.Over

abbrev pub groups_go_on : List ℕ
groups_go_on = group_goes_on ++ one symbol.Comma

abbrev pub tail_goes_on : List ℕ
tail_goes_on = source_goes_on ++ (join_symbols ++ (one symbol.Where ++ (one symbol.Group ++ (one symbol.Over ++ one symbol.Having))))

abbrev pub unions_go_on : List ℕ
unions_go_on = tail_goes_on ++ one symbol.Union

abbrev pub closed_goes_on : List ℕ
closed_goes_on = unions_go_on ++ one symbol.Semicolon

abbrev pub script_goes_on : List ℕ
script_goes_on = closed_goes_on ++ one symbol.Select

not_absent : (s : Symbol) → (symbol_number s == no_symbol) ≡ false
not_absent symbol.EndOfText = refl
not_absent _ = refl

-- the symbol that no token has is in no set of symbols
pub among_absent : (symbols : List Symbol) → among (set_of symbols) no_symbol ≡ false
among_absent [] = refl
among_absent (s ∷ symbols) = ap (λ (b : Bool). b || among (set_of symbols) no_symbol) (not_absent s) ∙ among_absent symbols
