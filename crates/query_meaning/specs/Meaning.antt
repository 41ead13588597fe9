-- The rows of a plan's outputs over the log of its streams (docs/ARCHITECTURE).
use Rattle.std.specs.Prelude.{List, [], map}
use Rattle.query_plan.specs.declared.plan.Output.{Output}
use Rattle.event_value.specs.declared.policy.Policy.{Policy}
use Rattle.event_value.specs.declared.record.Stamped.{Stamped}
use Rattle.query_meaning.specs.declared.ready.ReadyPlan.{ReadyPlan}
use Rattle.query_meaning.specs.Steps.{list_at, rows_of_steps}
use Rattle.query_meaning.specs.Streams.{Log, rows_of_streams}

-- the rows of an output that has none
abbrev pub no_rows : Output → List Stamped
no_rows output = []

-- the rows of an output: those of its step
abbrev pub output_rows : List (List Stamped) → Output → List Stamped
output_rows done output = list_at done output.step

-- the rows of each output of a plan, by those of its streams
abbrev pub outputs_over : ReadyPlan → List (List Stamped) → List (List Stamped)
outputs_over plan streams = map (output_rows (rows_of_steps streams plan.steps)) plan.outputs

-- the rows of each output of a plan over a log
abbrev pub rows_of_outputs : ReadyPlan → Policy → Log → List (List Stamped)
rows_of_outputs plan policy log = outputs_over plan (rows_of_streams policy plan.streams log)
