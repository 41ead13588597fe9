use Rattle.std.proofs.Common.{◌≡◌, ◌++◌, drop, ◌∷◌}
use Rattle.query_senses.proofs.parts.pred_reading.Given as goal

abbrev pub invariant-loop-part : goal.invariant-loop-part
invariant-loop-part l =
    l.parts ++ drop l.part-index l.part-items ≡ l.fn.sum ∷ l.part-items
