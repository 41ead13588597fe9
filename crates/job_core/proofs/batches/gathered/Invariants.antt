use Rattle.std.proofs.Common.{◌≡◌, ◌++◌, drop}
use Rattle.job_core.specs.Gathered as gather
use Rattle.job_core.proofs.batches.gathered.Given as goal

abbrev pub invariant-loop-count : goal.invariant-loop-count
invariant-loop-count l = l.streams ++ gather.gathered (drop l.count-index l.counts) l.rest.items ≡ gather.gathered l.counts l.fn.rows
