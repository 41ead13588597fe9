use Rattle.std.proofs.Common.{◌≡◌, [], take, drop, codes}
use Rattle.input_book.specs.Checks.{each, partition_order}
use Rattle.input_book.proofs.order_check.check_partitions.Given as goal

abbrev pub invariant-loop-index : goal.invariant-loop-index
invariant-loop-index l =
    each (λ _ p. partition_order p) (codes "partition") (take l.index l.partitions) (drop l.index l.partitions)
    ≡ each (λ _ p. partition_order p) (codes "partition") [] l.partitions
