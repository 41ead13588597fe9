-- The batch of a log that is read whole: all rows of the outputs, printed, and all dropped records
-- (docs/GUIDE, "Printed text").
use Rattle.std.specs.Prelude.{◌≡◌}
use Rattle.checkpoint_form.specs.declared.batch.Batch.{Batch}
use Rattle.event_value.specs.declared.policy.Policy.{Policy}
use Rattle.job_core.specs.Batches.{printed_outputs}
use Rattle.query_meaning.specs.Lists.{all_below}
use Rattle.query_meaning.specs.Meaning.{rows_of_outputs}
use Rattle.query_meaning.specs.Streams.{Log, drops_of_streams}
use Rattle.query_meaning.specs.declared.ready.ReadyPlan.{ReadyPlan}
use Rattle.tick_time.specs.Moment.{end_ticks}

pub record IsWholeBatch (plan : ReadyPlan) (policy : Policy) (log : Log) (batch : Batch) : Type 0 where
  pub outputs_are : batch.outputs
      ≡ printed_outputs 0 plan.outputs (all_below end_ticks (rows_of_outputs plan policy log))
  pub drops_are : batch.drops ≡ drops_of_streams policy plan.streams log
