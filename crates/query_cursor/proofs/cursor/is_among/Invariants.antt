use Rattle.std.proofs.Common.{◌≡◌, length}
use Rattle.grammar_rules.specs.Lexemes.{among}
use Rattle.query_tokens.specs.Symbols.{symbol_number}
use Rattle.query_grammar.specs.Lists.{set_of}
use Rattle.query_cursor.proofs.cursor.is_among.Given as goal

-- among the symbols that are left it is as among all
abbrev pub invariant-others : goal.invariant-others
invariant-others l = among (set_of l.rest) (symbol_number l.fn.symbol) ≡ among (set_of l.fn.symbols) (symbol_number l.fn.symbol)

abbrev pub decreases-others : goal.decreases-others
decreases-others l = length l.rest
