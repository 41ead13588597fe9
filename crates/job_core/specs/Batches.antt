-- What a cut gives: the rows of each output with their texts, and the dropped records since the last cut.
use Rattle.std.specs.Prelude.{ℕ, ◌+◌, List, [], ◌∷◌, ◌++◌, take, drop, map}
use Rattle.value_text.specs.Printed.{row_text}
use Rattle.query_plan.specs.declared.plan.Output.{Output}
use Rattle.query_plan.specs.declared.plan.StreamUse.{StreamUse}
use Rattle.event_value.specs.declared.policy.Policy.{Policy}
use Rattle.event_value.specs.declared.record.Dropped.{Dropped}
use Rattle.event_value.specs.declared.record.Stamped.{Stamped}
use Rattle.stream_op.specs.Rows.{from_on}
use Rattle.arrival_log.specs.Kept.{Judge, drops_behind}
use Rattle.query_meaning.specs.Lists.{all_between}
use Rattle.query_meaning.specs.Meaning.{outputs_over}
use Rattle.query_meaning.specs.declared.ready.ReadyPlan.{ReadyPlan}
use Rattle.query_meaning.specs.Streams.{judge_of}
use Rattle.checkpoint_form.specs.declared.batch.Row.{Row}
use Rattle.job_core.specs.Heard.{LaneHeard}

-- a row of an output with its printed form
abbrev pub printed : List (List ℕ) → Stamped → Row
printed names row = record { time = row.time; text = row_text names row.values }

-- the rows of an output from the start on, printed
abbrev pub printed_rows : ℕ → Output → List Stamped → List Row
printed_rows start output rows = map (printed output.names) (from_on start rows)

-- those of each output
abbrev pub printed_outputs : ℕ → List Output → List (List Stamped) → List (List Row)
printed_outputs start [] rows = []
printed_outputs start (output ∷ outputs) [] = []
printed_outputs start (output ∷ outputs) (rows ∷ more) =
    printed_rows start output rows ∷ printed_outputs start outputs more

-- the rows of each output of a plan from w to below u, from the start on
abbrev pub batch_outputs : ℕ → ℕ → ℕ → ReadyPlan → List (List Stamped) → List (List Row)
batch_outputs start w u plan streams = printed_outputs start plan.outputs (all_between w u (outputs_over plan streams))

-- the dropped records of a stream's lanes since the last cut, from this partition on
abbrev pub drops_since_of : Judge → ℕ → ℕ → List LaneHeard → List Dropped
drops_since_of j stream partition [] = []
drops_since_of j stream partition (h ∷ heard) =
    drops_behind j stream partition h.before h.since ++ drops_since_of j stream (partition + 1) heard

-- those of all streams, which have so many lanes each, in order of (stream, partition, place)
abbrev pub drops_since : Policy → List StreamUse → List ℕ → List LaneHeard → List Dropped
drops_since policy [] counts heard = []
drops_since policy (used ∷ uses) [] heard = []
drops_since policy (used ∷ uses) (count ∷ counts) heard =
    drops_since_of (judge_of policy used) used.stream 0 (take count heard)
    ++ drops_since policy uses counts (drop count heard)
