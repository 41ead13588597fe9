-- Which records of a lane are kept, at what time, and which items are dropped, by which rule: each entry
-- is judged by all that stand before it (docs/INPUTS, "Verdicts").
use Rattle.std.specs.Prelude.{ℕ, ◌+◌, min, List, [], ◌∷◌, ◌++◌, map, Option, Some, None, Bool, if◌then◌else◌}
use Rattle.event_value.specs.declared.record.Dropped.{Dropped as DroppedRecord}
use Rattle.event_value.specs.declared.record.Event.{Event}
use Rattle.event_value.specs.declared.record.Position.{Position}
use Rattle.event_value.specs.declared.value.Value.{Value}
use Rattle.row_order.specs.InOrder.{in_order}
use Rattle.row_order.specs.Stretches.{rows_below}
use Rattle.tick_time.specs.Moment.{end_ticks}
use Rattle.time_policy.specs.Entry.{Entry, Good, Bad, Mark}
use Rattle.time_policy.specs.Verdicts.{verdict, watermark}
use Rattle.time_policy.specs.declared.rules.Rules.{Rules}
use Rattle.time_policy.specs.declared.verdict.Verdict.{Verdict}
use Rattle.time_policy.specs.declared.verdict.Verdict.TheVariants.{Kept, Dropped}
use Rattle.arrival_log.specs.Log.{LaneEntry, Record, Broken, End, position}

-- how the records of a stream are judged: its rules, the stamp and the substream of a record by its values
pub record Judge : Type 0 where
  pub rules : Rules
  pub stamp : List Value → Option ℕ
  pub key : List Value → List Value

-- an entry, as the policies see it
abbrev pub policy_entry : Judge → LaneEntry → Entry
policy_entry j (Record enqueued through values) = Good enqueued through (j.stamp values) (j.key values)
policy_entry j (Broken rule) = Bad rule
policy_entry j (End through) = Mark through

-- the entries of a lane, as the policies see them
abbrev pub policy_entries : Judge → List LaneEntry → List Entry
policy_entries j front = map (policy_entry j) front

-- the verdict on an entry behind these; a mark has none
abbrev pub verdict_behind : Judge → List LaneEntry → LaneEntry → Option Verdict
verdict_behind j before e = verdict j.rules (policy_entries j before) (policy_entry j e)

-- the event of a record with these values at a place, if this verdict keeps it
abbrev pub kept_record : ℕ → Position → List Value → Option Verdict → List Event
kept_record partition place values (Some (Kept time)) =
    record { time = time; partition = partition; segment = place.segment; index = place.index; values = values }
    ∷ []
kept_record partition place values (Some (Dropped rule)) = []
kept_record partition place values None = []

-- the event of an entry, if it is a record that is kept
abbrev pub entry_event : ℕ → Position → LaneEntry → Option Verdict → List Event
entry_event partition place (Record _ _ values) v = kept_record partition place values v
entry_event partition place (Broken _) v = []
entry_event partition place (End _) v = []

-- the dropped record of an entry, if this verdict drops it
abbrev pub entry_drop : ℕ → ℕ → Position → Option Verdict → List DroppedRecord
entry_drop stream partition place (Some (Kept time)) = []
entry_drop stream partition place (Some (Dropped rule)) =
    record { stream = stream; partition = partition; segment = place.segment; index = place.index; rule = rule }
    ∷ []
entry_drop stream partition place None = []

-- the events of further entries, behind those before
abbrev pub events_behind : Judge → ℕ → List LaneEntry → List LaneEntry → List Event
events_behind j partition before [] = []
events_behind j partition before (e ∷ es) =
    entry_event partition (position before) e (verdict_behind j before e)
    ++ events_behind j partition (before ++ e ∷ []) es

-- the dropped records of further entries, behind those before
abbrev pub drops_behind : Judge → ℕ → ℕ → List LaneEntry → List LaneEntry → List DroppedRecord
drops_behind j stream partition before [] = []
drops_behind j stream partition before (e ∷ es) =
    entry_drop stream partition (position before) (verdict_behind j before e)
    ++ drops_behind j stream partition (before ++ e ∷ []) es

-- the events of a lane, in order of place
abbrev pub lane_events : Judge → ℕ → List LaneEntry → List Event
lane_events j partition front = events_behind j partition [] front

-- the dropped records of a lane, in order of place
abbrev pub lane_drops : Judge → ℕ → ℕ → List LaneEntry → List DroppedRecord
lane_drops j stream partition front = drops_behind j stream partition [] front

-- the entries of a lane that were heard, and whether it gets no more
pub record HeardLane : Type 0 where
  pub front : List LaneEntry
  pub closed : Bool

-- the watermark of a lane; a closed one has the greatest moment
abbrev pub lane_watermark : Judge → HeardLane → ℕ
lane_watermark j lane = if lane.closed then end_ticks else watermark j.rules (policy_entries j lane.front)

-- the least of the watermarks of the lanes
abbrev pub least_watermark : Judge → List HeardLane → ℕ
least_watermark j [] = end_ticks
least_watermark j (lane ∷ lanes) = min (lane_watermark j lane) (least_watermark j lanes)

-- the events of the lanes from this number on, in order of (lane, place)
abbrev pub lanes_events : Judge → ℕ → List HeardLane → List Event
lanes_events j partition [] = []
lanes_events j partition (lane ∷ lanes) =
    lane_events j partition lane.front ++ lanes_events j (partition + 1) lanes

-- the events of a stream, in order of (time, partition, place)
abbrev pub stream_events : Judge → List HeardLane → List Event
stream_events j lanes = in_order (λ (e : Event). e.time) (lanes_events j 0 lanes)

-- the events below a time
abbrev pub events_below : ℕ → List Event → List Event
events_below w events = rows_below (λ (e : Event). e.time) w events
