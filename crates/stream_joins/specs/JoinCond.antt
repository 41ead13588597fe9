-- Which rows match by a condition.
use Rattle.std.specs.Prelude.{ℕ, Bool, List, ◌++◌}
use Rattle.query_plan.specs.declared.expr.Cond.{Cond}
use Rattle.event_value.specs.declared.value.Value.{Value}
use Rattle.expr_eval.specs.Truths.{is_true}
use Rattle.expr_eval.specs.Values.{truth_of}

-- the condition is true over the values of both rows, the left ones first, at a time
abbrev pub passes_over : Cond → List Value → List Value → ℕ → Bool
passes_over cond left right time = is_true (truth_of (left ++ right) time cond)
