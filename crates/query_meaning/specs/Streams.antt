-- The events of the streams that a plan uses, and their dropped records: each lane is judged by the policy,
-- by the stream's TIMESTAMP BY and by its OVER (docs/INPUTS, "Verdicts").
use Rattle.std.specs.Prelude.{ℕ, ◌+◌, min, List, [], ◌∷◌, ◌++◌, map, length, nat_lt, Option, Some, None, is_some}
use Rattle.query_plan.specs.declared.expr.Expr.{Expr}
use Rattle.query_plan.specs.declared.plan.StreamUse.{StreamUse}
use Rattle.event_value.specs.declared.policy.Policy.{Policy}
use Rattle.event_value.specs.declared.record.Dropped.{Dropped}
use Rattle.event_value.specs.declared.record.Event.{Event}
use Rattle.event_value.specs.declared.record.Stamped.{Stamped}
use Rattle.event_value.specs.declared.value.Value.{Value}
use Rattle.event_value.specs.declared.value.Value.TheVariants.{Null, Bit, Big, Fixed, Text, Moment}
use Rattle.arrival_log.specs.Kept.{HeardLane, Judge, lane_drops, least_watermark, stream_events}
use Rattle.expr_eval.specs.Values.{column, value_of}
use Rattle.tick_time.specs.Moment.{end_ticks}
use Rattle.time_policy.specs.PolicyState.{rules_of}

-- the entries that were heard of the streams that a plan uses, in its order: of each its lanes, by partition
abbrev pub Log : Type 0
Log = List (List HeardLane)

-- the moment that a value is, if it is one
abbrev pub moment_in : Value → Option ℕ
moment_in Null = None
moment_in (Bit _) = None
moment_in (Big _) = None
moment_in (Fixed _) = None
moment_in (Text _) = None
moment_in (Moment m) = Some m

-- the stamp of a record with these values: what TIMESTAMP BY is over them. The record has no time yet, and
-- none can be named there, so it is looked at as of moment 0.
abbrev pub stamp_of : Option Expr → List Value → Option ℕ
stamp_of None values = None
stamp_of (Some expr) values = moment_in (value_of values 0 expr)

-- the substream of a record with these values: the values of the OVER columns
abbrev pub substream_of : List ℕ → List Value → List Value
substream_of over values = map (column values) over

-- how the records of a stream are judged
abbrev pub judge_of : Policy → StreamUse → Judge
judge_of policy used = record {
  rules = rules_of policy (is_some used.stamp) (nat_lt 0 (length used.over));
  stamp = stamp_of used.stamp;
  key = substream_of used.over;
}

-- an event as a row
abbrev pub row_of : Event → Stamped
row_of event = record { time = event.time; values = event.values }

-- the events of a stream as rows, in order of (time, partition, place)
abbrev pub stream_rows : Judge → List HeardLane → List Stamped
stream_rows j lanes = map row_of (stream_events j lanes)

-- those of each stream that a plan uses
abbrev pub rows_of_streams : Policy → List StreamUse → Log → List (List Stamped)
rows_of_streams policy [] log = []
rows_of_streams policy (used ∷ uses) [] = []
rows_of_streams policy (used ∷ uses) (lanes ∷ log) =
    stream_rows (judge_of policy used) lanes ∷ rows_of_streams policy uses log

-- the dropped records of a stream's lanes from this partition on, in order of (partition, place)
abbrev pub drops_of_lanes : Judge → ℕ → ℕ → List HeardLane → List Dropped
drops_of_lanes j stream partition [] = []
drops_of_lanes j stream partition (lane ∷ lanes) =
    lane_drops j stream partition lane.front ++ drops_of_lanes j stream (partition + 1) lanes

-- the dropped records of all streams, in order of (stream, partition, place); each has the number of its
-- stream in the inputs document
abbrev pub drops_of_streams : Policy → List StreamUse → Log → List Dropped
drops_of_streams policy [] log = []
drops_of_streams policy (used ∷ uses) [] = []
drops_of_streams policy (used ∷ uses) (lanes ∷ log) =
    drops_of_lanes (judge_of policy used) used.stream 0 lanes ++ drops_of_streams policy uses log

-- the least of the watermarks of all lanes of all streams
abbrev pub watermark_of_streams : Policy → List StreamUse → Log → ℕ
watermark_of_streams policy [] log = end_ticks
watermark_of_streams policy (used ∷ uses) [] = end_ticks
watermark_of_streams policy (used ∷ uses) (lanes ∷ log) =
    min (least_watermark (judge_of policy used) lanes) (watermark_of_streams policy uses log)
