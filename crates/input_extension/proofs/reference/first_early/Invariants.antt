use Rattle.std.proofs.Common.{◌≡◌, drop}
use Rattle.input_extension.specs.Refusals.{first_early}
use Rattle.input_extension.proofs.reference.first_early.Given as goal

abbrev pub invariant-loop-snapshot : goal.invariant-loop-snapshot
invariant-loop-snapshot l = first_early l.w l.snapshots ≡ first_early l.w (drop l.snapshot-index l.snapshots)
