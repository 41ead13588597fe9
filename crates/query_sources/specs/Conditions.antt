-- Readings where a condition is due, or a value: the reverse is refused at the whole expression.
use Rattle.std.specs.Prelude.{ℕ, Ok, Err}
use Rattle.query_plan.specs.declared.expr.Cond.{Cond}
use Rattle.query_plan.specs.declared.plan.Step.TheVariants.{Filter}
use Rattle.query_tree.specs.declared.expr.Expr.{Expr, out-Expr}
use Rattle.query_forms.specs.declared.fault.Cause.TheVariants as cause
use Rattle.query_readings.specs.declared.reading.Side.{Side}
use Rattle.query_readings.specs.declared.scope.Scope.{Scope}
use Rattle.query_forms.specs.declared.sense.Sense.{Sense}
use Rattle.query_forms.specs.declared.sense.Sense.TheVariants.{Value, Condition}
use Rattle.query_forms.specs.declared.sense.Valued.{Valued}
use Rattle.query_forms.specs.Faults.{Checked, and_then, refused}
use Rattle.query_readings.specs.Reading.{Outcome, outcome_of}
use Rattle.query_senses.specs.Readings.{reading}
use Rattle.query_sources.specs.declared.draft.Draft.{Draft}
use Rattle.query_sources.specs.Drafts.{noted, with_step}

abbrev pub condition_in : ℕ → Sense → Checked Cond
condition_in place (Value v) = refused place cause.Kind
condition_in place (Condition c) = Ok c

abbrev pub condition_of : ℕ → Outcome → Checked Cond
condition_of place outcome = and_then outcome (condition_in place)

abbrev pub value_in : ℕ → Sense → Checked Valued
value_in place (Value v) = Ok v
value_in place (Condition c) = refused place cause.Kind

abbrev pub value_of : ℕ → Outcome → Checked Valued
value_of place outcome = and_then outcome (value_in place)

abbrev pub place_of : Expr → ℕ
place_of e = (out-Expr e).place

-- the rows where a condition is true
abbrev pub filtered_by : Checked Cond → Draft → Draft
filtered_by (Ok c) d = with_step (Filter d.last c) d
filtered_by (Err faults) d = noted faults d

unfoldable pub filtered : Scope → Side → Expr → Draft → Draft
filtered scope side e d =
    filtered_by (condition_of (place_of e) (outcome_of side (reading scope e))) d
