use Rattle.std.proofs.Common.{ltb, rules}
use Rattle.std.proofs.lemmas.List.Sorted.{IsPartitionPoint-from_clause, IsPartitionedBy-ltb}
use Rattle.stream_op.specs.Rows.{time_of}
use Rattle.window_flow.proofs.StretchLemmas.{AreInOrder-places, turn-count}
use Rattle.window_flow.proofs.stretch.count_below.Goals as goal

pub returns-clause-count : goal.returns-clause-count
returns-clause-count c = λ o.
    let rows = c.args.rows.now in
    let parted = IsPartitionedBy-ltb time_of rows c.args.time (AreInOrder-places rows o) in
    let point = IsPartitionPoint-from_clause (λ row. ltb (time_of row) c.args.time) rows _ c.partition_point.ensures.partitioned parted (λ a r q k. search rules) in
    turn-count (λ row. ltb (time_of row) c.args.time) rows _ c.partition_point.ensures.bound point.0 point.1
