use Rattle.std.proofs.Common.{◌≡◌, drop, Some, false}
use Rattle.expr_eval.specs.Truths.{or_equal_to}
use Rattle.expr_eval.proofs.truths.one_of.Given as goal

abbrev pub invariant-loop-other : goal.invariant-loop-other
invariant-loop-other l =
    or_equal_to l.truth l.value (drop l.other-index l.others) ≡ or_equal_to (Some false) l.value l.others
