use Rattle.std.proofs.Common.{◌≡◌, take}
use Rattle.log_reading.specs.References.{effective_moments}
use Rattle.log_reading.proofs.references.effective_moments.Given as goal

-- the moments so far
abbrev pub invariant-loop-snapshot : goal.invariant-loop-snapshot
invariant-loop-snapshot l = l.moments ≡ effective_moments (take l.snapshot-index l.snapshots)
