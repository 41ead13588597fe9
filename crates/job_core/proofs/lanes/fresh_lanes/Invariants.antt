use Rattle.std.proofs.Common.{◌≡◌, map, take}
use Rattle.job_core.specs.Fresh.{fresh_heard_of, lane_counts, lane_kinds}
use Rattle.job_core.specs.Lanes.{AreOfStreams, LanesStand, kind_of, name_of}
use Rattle.job_core.proofs.lanes.fresh_lanes.Given as goal

abbrev pub invariant-loop-used : goal.invariant-loop-used
invariant-loop-used l = record {
  counts_are : l.counts ≡ lane_counts l.inputs (take l.used-index l.uses);
  kinds_are : map kind_of l.lanes ≡ lane_kinds l.inputs (take l.used-index l.uses);
  of_streams : AreOfStreams (take l.used-index l.uses) l.counts (map name_of l.lanes);
  stand : LanesStand l.inputs.policy l.lanes (fresh_heard_of l.inputs (take l.used-index l.uses)) 0;
}
