use Rattle.std.proofs.Common.{◌≡◌, ◌∷◌, drop, true}
use Rattle.expr_eval.specs.Rows.{no_bits, row_behind}
use Rattle.expr_eval.proofs.patterns.whole_row.Given as goal

abbrev pub invariant-loop-character : goal.invariant-loop-character
invariant-loop-character l =
    row_behind l.text l.row.items (drop l.character-index l.pattern)
    ≡ row_behind l.text (true ∷ no_bits l.text) l.pattern
