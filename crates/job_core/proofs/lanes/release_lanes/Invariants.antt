use Rattle.std.proofs.Common.{◌≡◌, map}
use Rattle.job_core.specs.Gathered.{joined}
use Rattle.job_core.specs.Lanes.{AreReleased}
use Rattle.job_core.specs.declared.lane.Lane.{Lane}
use Rattle.job_core.proofs.lanes.release_lanes.Given as goal

abbrev pub invariant-loop-lane : goal.invariant-loop-lane
invariant-loop-lane l = record {
  released : AreReleased l.upto l.yielded l.left l.rows;
  drops_are : l.drops ≡ joined (map (λ (lane : Lane). lane.drops) l.yielded);
}
