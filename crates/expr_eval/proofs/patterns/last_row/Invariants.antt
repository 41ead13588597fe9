use Rattle.std.proofs.Common.{◌≡◌, ◌∷◌, ◌++◌, drop, true}
use Rattle.expr_eval.specs.Rows.{no_bits}
use Rattle.expr_eval.proofs.patterns.last_row.Given as goal

abbrev pub invariant-loop-character : goal.invariant-loop-character
invariant-loop-character l = l.row.items ++ no_bits (drop l._character-index l.text) ≡ true ∷ no_bits l.text
