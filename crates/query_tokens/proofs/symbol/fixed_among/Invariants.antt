use Rattle.std.proofs.Common.{◌≡◌, drop}
use Rattle.query_tokens.specs.Symbols.{fixed_among}
use Rattle.query_tokens.proofs.symbol.fixed_among.Given as goal

abbrev pub invariant-loop-symbol : goal.invariant-loop-symbol
invariant-loop-symbol l = fixed_among (drop l.symbol-index l.symbols) l.text l.other ≡ fixed_among l.symbols l.text l.other
