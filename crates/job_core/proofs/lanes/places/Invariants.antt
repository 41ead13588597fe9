use Rattle.std.proofs.Common.{◌≡◌, map, take}
use Rattle.job_core.specs.declared.lane.Lane.{Lane}
use Rattle.job_core.proofs.lanes.places.Given as goal

abbrev pub invariant-loop-lane : goal.invariant-loop-lane
invariant-loop-lane l = l.places ≡ map (λ (lane : Lane). lane.place) (take l.lane-index l.lanes)
