use Rattle.std.proofs.Common.{◌≡◌, ◌∷◌, ◌++◌, drop}
use Rattle.expr_eval.specs.Rows.{empty_fits, first_bit, bits_behind, bits_from}
use Rattle.expr_eval.proofs.patterns.row_before.Given as goal

-- the bits so far, and those of the longer rests
abbrev pub invariant-loop-character : goal.invariant-loop-character
invariant-loop-character l =
    l.row.items ++ bits_from l.pattern l.both l.before (drop l.character-index l.text) l.rest
    ≡ empty_fits l.pattern (first_bit l.after)
    ∷ bits_from l.pattern (empty_fits l.pattern (first_bit l.after)) (first_bit l.after) l.text (bits_behind l.after)
