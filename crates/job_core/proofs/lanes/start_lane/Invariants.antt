use Rattle.std.proofs.Common.{◌≡◌, take}
use Rattle.job_core.specs.Fresh.{throughs_of}
use Rattle.job_core.proofs.lanes.start_lane.Given as goal

abbrev pub invariant-loop-segment : goal.invariant-loop-segment
invariant-loop-segment l = l.throughs ≡ throughs_of (take l.segment-index l.segments)
