use Rattle.std.proofs.Common.{◌∙◌}
use Rattle.query_tokens.proofs.SymbolLemmas.{sameb-is_symbol}
use Rattle.query_tokens.proofs.symbol.Symbol.is.Goals as goal

pub returns : goal.returns
returns c = c.eq.ensures ∙ sameb-is_symbol c.args.self c.args.symbol
