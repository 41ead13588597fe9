-- What one entry more changes in a lane.
use Rattle.std.specs.Prelude.{◌≡◌, ◌≤◌, ℕ, List, [], ◌∷◌, ◌++◌}
use Rattle.time_policy.specs.Verdicts.{watermark}
use Rattle.arrival_log.specs.Kept.{Judge, policy_entries, verdict_behind, entry_event, entry_drop}
use Rattle.arrival_log.specs.Kept.{lane_events, lane_drops, events_below}
use Rattle.arrival_log.specs.Log.{LaneEntry, position, place_behind}

-- it adds its event, its dropped record and its place behind those of the entries before it
pub record AddsItsOwn (j : Judge) (front : List LaneEntry) (e : LaneEntry) : Type 0 where
  pub event : (partition : ℕ) → lane_events j partition (front ++ e ∷ [])
      ≡ lane_events j partition front ++ entry_event partition (position front) e (verdict_behind j front e)
  pub drop : (stream partition : ℕ) → lane_drops j stream partition (front ++ e ∷ [])
      ≡ lane_drops j stream partition front
      ++ entry_drop stream partition (position front) (verdict_behind j front e)
  pub place : position (front ++ e ∷ []) ≡ place_behind (position front) e

-- whatever follows, the events below the lane's watermark stay as they are
abbrev pub AreSettled : Judge → Type 0
AreSettled j = (partition w : ℕ) (front more : List LaneEntry) → w ≤ watermark j.rules (policy_entries j front)
    → events_below w (lane_events j partition (front ++ more)) ≡ events_below w (lane_events j partition front)
