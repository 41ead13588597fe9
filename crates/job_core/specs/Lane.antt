-- What a lane of a core stands for.
use Rattle.std.specs.Prelude.{◌≡◌, ◌≤◌, ◌<◌, ◌+◌, ◌^◌, ℕ, List, [], ◌∷◌, ◌++◌, length, map, get_or, if◌then◌else◌}
use Rattle.query_plan.specs.declared.plan.StreamUse.{StreamUse}
use Rattle.event_value.specs.declared.policy.Policy.{Policy}
use Rattle.event_value.specs.declared.record.Item.{Item}
use Rattle.event_value.specs.declared.record.Stamped.{Stamped}
use Rattle.tick_time.specs.Moment.{end_ticks}
use Rattle.time_policy.specs.PolicyState.{StandsFor}
use Rattle.time_policy.specs.Verdicts.{watermark}
use Rattle.arrival_log.specs.Kept.{drops_behind, events_below, lane_events, lane_watermark, policy_entries}
use Rattle.arrival_log.specs.Log.{LaneEntry, position}
use Rattle.query_meaning.specs.Streams.{judge_of, row_of}
use Rattle.job_core.specs.Heard.{LaneHeard, events_from, heard_lane, is_closed, next_entries, with_entries}
use Rattle.job_core.specs.declared.lane.Lane.{Lane}

-- The lane of this partition of a stream has heard these entries, those before the last cut and those since: it has
-- their policy state and place, the events at w or later, and the dropped records since the last cut.
pub record HasHeard (policy : Policy) (used : StreamUse) (partition : ℕ) (lane : Lane) (before since : List LaneEntry) (w : ℕ) : Type 0 where
  pub used_is : lane.used ≡ used
  pub partition_is : lane.partition ≡ partition
  pub rules_are : lane.state.rules ≡ (judge_of policy used).rules
  pub state_stands : StandsFor lane.state (policy_entries (judge_of policy used) (before ++ since))
  pub place_is : lane.place ≡ position (before ++ since)
  pub kept_are : lane.kept ≡ events_from w (lane_events (judge_of policy used) partition (before ++ since))
  pub drops_are : lane.drops ≡ drops_behind (judge_of policy used) used.stream partition before since

-- the watermark of the entries of a lane that gets more
abbrev pub open_watermark : Policy → StreamUse → List LaneEntry → ℕ
open_watermark policy used front = watermark (judge_of policy used).rules (policy_entries (judge_of policy used) front)

-- the lane has heard this entry behind those before it
abbrev pub Hears : Lane → Lane → LaneEntry → Type 0
Hears old new e = (policy : Policy) (used : StreamUse) (partition : ℕ) (before since : List LaneEntry) (w : ℕ)
    → w ≤ open_watermark policy used (before ++ since) → HasHeard policy used partition old before since w
    → HasHeard policy used partition new before (since ++ e ∷ []) w

-- the lane has heard these entries behind those before them
abbrev pub HearsAll : Lane → Lane → List LaneEntry → Type 0
HearsAll old new es = (policy : Policy) (used : StreamUse) (partition : ℕ) (before since : List LaneEntry) (w : ℕ)
    → w ≤ open_watermark policy used (before ++ since) → HasHeard policy used partition old before since w
    → HasHeard policy used partition new before (since ++ es) w

-- it is the same lane, with the same segments
pub record IsSameLane (old new : Lane) : Type 0 where
  pub used_is : new.used ≡ old.used
  pub partition_is : new.partition ≡ old.partition
  pub throughs_are : new.throughs ≡ old.throughs
  pub ended_is : new.ended ≡ old.ended

-- the lane stands for what was heard of it; rows below w were given
pub record LaneStands (policy : Policy) (lane : Lane) (h : LaneHeard) (w : ℕ) : Type 0 where
  pub heard : HasHeard policy lane.used lane.partition lane h.before h.since w
  pub closed_is : h.closed ≡ is_closed lane.ended (length lane.throughs) lane.place
  pub settled : w ≤ lane_watermark (judge_of policy lane.used) (heard_lane h)

-- the end of the segment that the lane is in
abbrev pub through_of : Lane → ℕ
through_of lane = get_or lane.throughs lane.place.segment 0

-- the next entries of its segment
abbrev pub fed_entries : Lane → List Item → ℕ → List LaneEntry
fed_entries lane items n = next_entries (through_of lane) items lane.place.index n

-- the lane has heard these further entries
abbrev pub IsFed : Lane → List LaneEntry → Lane → Type 0
IsFed old more new = (policy : Policy) (h : LaneHeard) (w : ℕ) → w ≤ end_ticks → LaneStands policy old h w
    → LaneStands policy new (with_entries old.ended (length old.throughs) more h) w

-- there are so many unread entries in the segment that the lane is in
pub record HasUnread (lane : Lane) (items : List Item) (n : ℕ) : Type 0 where
  pub in_segment : lane.place.segment < length lane.throughs
  pub within : lane.place.index ≤ length items
  pub unread : lane.place.index + n ≤ length items + 1
  pub few : length items + 1 < 2 ^ 32

-- the watermark of a lane, by what it has
abbrev pub own_watermark : Lane → ℕ
own_watermark lane = if is_closed lane.ended (length lane.throughs) lane.place then end_ticks else lane.state.watermark

-- the rows below u were taken out, and the dropped records
pub record IsReleased (u : ℕ) (old new : Lane) (rows : List Stamped) : Type 0 where
  pub same : IsSameLane old new
  pub state_is : new.state ≡ old.state
  pub place_is : new.place ≡ old.place
  pub kept_are : new.kept ≡ events_from u old.kept
  pub drops_are : new.drops ≡ []
  pub rows_are : rows ≡ map row_of (events_below u old.kept)
