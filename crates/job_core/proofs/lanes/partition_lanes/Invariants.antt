use Rattle.std.proofs.Common.{◌≡◌, map, take, length}
use Rattle.job_core.specs.Fresh.{fresh_lane, kinds_from}
use Rattle.job_core.specs.Lanes.{AreOfStream, LanesStand, kind_of, name_of}
use Rattle.job_core.proofs.lanes.partition_lanes.Given as goal

abbrev pub invariant-loop-partition : goal.invariant-loop-partition
invariant-loop-partition l = record {
  number_is : l.number ≡ l.partition-index;
  count : length l.lanes ≡ l.partition-index;
  kinds_are : map kind_of l.lanes ≡ kinds_from l.used 0 (take l.partition-index l.partitions);
  of_stream : AreOfStream l.used 0 (map name_of l.lanes);
  stand : LanesStand l.policy l.lanes (map fresh_lane (take l.partition-index l.partitions)) 0;
}
