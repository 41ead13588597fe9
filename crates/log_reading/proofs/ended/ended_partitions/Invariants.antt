use Rattle.std.proofs.Common.{◌≡◌, map, take}
use Rattle.log_reading.specs.Ended.{ended_partition}
use Rattle.log_reading.proofs.ended.ended_partitions.Given as goal

-- the partitions so far
abbrev pub invariant-loop-partition : goal.invariant-loop-partition
invariant-loop-partition l = l.all ≡ map ended_partition (take l.partition-index l.partitions)
