use Rattle.std.proofs.Common.{◌≡◌, ◌≤◌, map, drop, length}
use Rattle.job_core.specs.Lane.{own_watermark}
use Rattle.job_core.specs.Lanes.{least}
use Rattle.job_core.proofs.lanes.least_watermark.Given as goal

abbrev pub invariant-loop-at : goal.invariant-loop-at
invariant-loop-at l = record {
  within : l.at ≤ length l.lanes;
  least_is : l.least ≡ least (map own_watermark (drop l.at l.lanes));
}

abbrev pub decreases-loop-at : goal.decreases-loop-at
decreases-loop-at l = l.at
