use Rattle.std.proofs.Common.{◌≡◌, ◌≤◌, [], take, drop, codes}
use Rattle.input_book.specs.Checks.{each, stream_limits, partition_count}
use Rattle.input_book.specs.Limits.{max_partitions}
use Rattle.input_book.proofs.limit_check.check_streams.Given as goal

abbrev pub invariant-loop-index : goal.invariant-loop-index
invariant-loop-index l = record {
  count : l.before ≡ partition_count (take l.index l.streams);
  within : l.before ≤ max_partitions;
  rest : each (λ passed stream. stream_limits (partition_count passed) stream) (codes "stream") (take l.index l.streams) (drop l.index l.streams)
      ≡ each (λ passed stream. stream_limits (partition_count passed) stream) (codes "stream") [] l.streams;
}
