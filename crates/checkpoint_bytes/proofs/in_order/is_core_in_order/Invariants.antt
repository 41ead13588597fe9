use Rattle.std.proofs.Common.{◌≡◌, drop}
use Rattle.std.specs.List.{list_all}
use Rattle.checkpoint_bytes.specs.Cores as spec
use Rattle.checkpoint_bytes.proofs.in_order.is_core_in_order.Given as goal

abbrev pub invariant-loop-lane : goal.invariant-loop-lane
invariant-loop-lane l =
    spec.is_core_in_order l.core ≡ list_all spec.is_lane_in_order (drop l.lane-index l.lane-items)
