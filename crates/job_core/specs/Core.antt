-- What a core stands for: what was heard of its lanes, and the moment below which rows were given.
use Rattle.std.specs.Prelude.{◌≡◌, ◌≤◌, ℕ, List, map, Some, slice_get, length}
use Rattle.event_value.specs.declared.record.Item.{Item}
use Rattle.event_value.specs.declared.record.Stamped.{Stamped}
use Rattle.checkpoint_form.specs.declared.batch.Batch.{Batch}
use Rattle.tick_time.specs.Moment.{end_ticks}
use Rattle.query_meaning.specs.Pipeline.{IsAt}
use Rattle.arrival_log.specs.Kept.{lane_watermark}
use Rattle.query_meaning.specs.Streams.{judge_of, rows_of_streams, watermark_of_streams}
use Rattle.job_core.specs.Batches.{batch_outputs, drops_since}
use Rattle.job_core.specs.Heard.{LaneHeard, cut_lane, heard_lane, log_of, place_of, with_entries, with_lane}
use Rattle.job_core.specs.Lane.{fed_entries}
use Rattle.job_core.specs.Lanes.{AreOfStreams, LanesStand, kind_of, name_of}
use Rattle.job_core.specs.declared.job.Core.{Core}
use Rattle.job_core.specs.declared.job.Rest.{Rest}
use Rattle.job_core.specs.declared.lane.Lane.{Lane}

-- the rest of a core, with these lanes
abbrev pub with_lanes : Rest → List Lane → Core
with_lanes rest lanes = record {
  plan = rest.plan;
  policy = rest.policy;
  start = rest.start;
  counts = rest.counts;
  lanes = lanes;
  pipeline = rest.pipeline;
}

-- the rows of a core's streams
abbrev pub core_rows : Core → List LaneHeard → List (List Stamped)
core_rows core heard = rows_of_streams core.policy core.plan.streams (log_of core.counts heard)

-- the least of the watermarks of its lanes
abbrev pub core_watermark : Core → List LaneHeard → ℕ
core_watermark core heard = watermark_of_streams core.policy core.plan.streams (log_of core.counts heard)

-- the core stands for what was heard of its lanes, and for the moment up to which it was last cut
pub record CoreStands (core : Core) (heard : List LaneHeard) (w : ℕ) : Type 0 where
  pub are_of_streams : AreOfStreams core.plan.streams core.counts (map name_of core.lanes)
  pub lanes_stand : LanesStand core.policy core.lanes heard w
  pub pipeline_at : IsAt core.pipeline core.plan (core_rows core heard) w
  pub before_end : w ≤ end_ticks

-- it is the watermark of a lane that has heard this
abbrev pub IsWatermarkAt : Core → ℕ → LaneHeard → ℕ → Type 0
IsWatermarkAt core place h mark = (lane : Lane) → slice_get core.lanes place ≡ Some lane
    → mark ≡ lane_watermark (judge_of core.policy lane.used) (heard_lane h)

-- it is a core of the same plan, policy, start and lanes
pub record IsSameCore (old new : Core) : Type 0 where
  pub plan_is : new.plan ≡ old.plan
  pub policy_is : new.policy ≡ old.policy
  pub start_is : new.start ≡ old.start
  pub counts_are : new.counts ≡ old.counts
  pub lanes_are : map kind_of new.lanes ≡ map kind_of old.lanes

-- whatever the core stands for, the new core stands for that with the next entries of a lane
abbrev pub IsFedAt : Core → ℕ → List Item → ℕ → Core → Type 0
IsFedAt old place items n new = (lane : Lane) (heard : List LaneHeard) (w : ℕ)
    → slice_get old.lanes place ≡ Some lane → CoreStands old heard w
    → CoreStands new (with_lane (with_entries lane.ended (length lane.throughs) (fed_entries lane items n)) place heard) w

-- the batch of a cut: the rows of each output from the last moment to below the watermark, those from the start
-- on, the dropped records since the last cut, the places of the lanes, and the watermark
pub record IsBatch (core : Core) (heard : List LaneHeard) (w : ℕ) (batch : Batch) : Type 0 where
  pub outputs_are : batch.outputs
      ≡ batch_outputs core.start w (core_watermark core heard) core.plan (core_rows core heard)
  pub drops_are : batch.drops ≡ drops_since core.policy core.plan.streams core.counts heard
  pub positions_are : batch.positions ≡ map place_of heard
  pub upto_is : batch.upto ≡ core_watermark core heard

-- whatever the core stands for, the batch is that of it, and the new core stands for it as cut
abbrev pub IsCut : Core → Core → Batch → Type 0
IsCut old new batch = (heard : List LaneHeard) (w : ℕ) → CoreStands old heard w
    → IsBatch old heard w batch × CoreStands new (map cut_lane heard) (core_watermark old heard)
