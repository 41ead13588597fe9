-- What holds of every plan.
use Rattle.std.specs.Prelude.{◌≡◌, ℕ, List}
use Rattle.query_meaning.specs.declared.ready.ReadyPlan.{ReadyPlan}
use Rattle.event_value.specs.declared.record.Stamped.{Stamped}
use Rattle.query_meaning.specs.Lists.{AllInOrder, all_below}
use Rattle.query_meaning.specs.Meaning.{outputs_over}

-- streams in order of time give outputs in order of time, whose rows below a time depend on the streams'
-- rows below it alone
pub record PlanLaws (plan : ReadyPlan) : Type 0 where
  pub past_only : (streams : List (List Stamped)) (x : ℕ) → AllInOrder streams
      → all_below x (outputs_over plan streams) ≡ all_below x (outputs_over plan (all_below x streams))
  pub in_order : (streams : List (List Stamped)) → AllInOrder streams → AllInOrder (outputs_over plan streams)
