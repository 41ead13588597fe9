use Rattle.std.proofs.Common.{◌≡◌, drop, false}
use Rattle.expr_eval.specs.Rows.{last_bit}
use Rattle.expr_eval.proofs.patterns.last_bit.Given as goal

abbrev pub invariant-loop-bit : goal.invariant-loop-bit
invariant-loop-bit l = last_bit l.last (drop l.bit-index l.row) ≡ last_bit false l.row
