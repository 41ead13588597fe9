use Rattle.std.proofs.Common.{◌≡◌, drop}
use Rattle.checkpoint_bytes.specs.Cores as spec
use Rattle.checkpoint_bytes.proofs.in_order.is_rising_behind.Given as goal

abbrev pub invariant-loop-item : goal.invariant-loop-item
invariant-loop-item g l =
    spec.is_rising_behind g.T.Ranked.order l.first l.others
    ≡ spec.is_rising_behind g.T.Ranked.order l.before (drop l.item-index l.others)
