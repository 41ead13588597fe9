use Rattle.std.proofs.Common.{◌≡◌, take}
use Rattle.job_core.specs.Batches as spec
use Rattle.job_core.proofs.batches.printed_outputs.Given as goal

abbrev pub invariant-loop-i : goal.invariant-loop-i
invariant-loop-i l = l.printed ≡ spec.printed_outputs l.start (take l.i l.outputs) (take l.i l.rows)
