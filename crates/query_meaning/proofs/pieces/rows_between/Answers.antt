use Rattle.std.proofs.Common.{rules, of_calls, ◌≡◌, ◌-◌, not, take, drop, filter, length, ap, sym, ◌∙◌, subst}
use Rattle.std.specs.Prelude.{nat_lt}
use Rattle.std.proofs.lemmas.List.{take_rest}
use Rattle.std.proofs.lemmas.List.Sorted.{IsPartitionPoint-from_clause}
use Rattle.event_value.specs.declared.record.Stamped.{Stamped}
use Rattle.row_order.proofs.StretchLemmas.{IsInOrder-filter}
use Rattle.stream_joins.proofs.PartLemmas.{IsPartitionedBy-in_order, earlier-than, filter-point, filter-point_rest}
use Rattle.stream_op.specs.Rows.{AreInOrder, time_of}
use Rattle.query_meaning.proofs.PipelineLemmas.{between-parts}
use Rattle.query_meaning.proofs.pieces.rows_between.Goals as goal

pub returns : goal.returns
returns c = λ order.
    let rows = c.args.rows.now in
    let before = λ (b : Stamped). nat_lt b.time c.args.from in
    let within = λ (b : Stamped). nat_lt b.time c.args.upto in
    let i = c.partition_point-first.result in
    let k = c.partition_point-count.result in
    let front = IsPartitionPoint-from_clause before rows i c.partition_point-first.ensures.partitioned
    (IsPartitionedBy-in_order time_of before rows order (earlier-than c.args.from)) (λ a r f h. search (rules, of_calls)) in
    let rest : take (length rows - i) (drop i rows) ≡ filter (λ (b : Stamped). not (before b)) rows =
    take_rest rows i ∙ sym (filter-point_rest before rows i c.partition_point-first.ensures.bound front) in
    let order_rest : AreInOrder (take (length rows - i) (drop i rows)) =
    subst AreInOrder (sym rest) (IsInOrder-filter time_of (λ (b : Stamped). not (before b)) rows order) in
    let near = IsPartitionPoint-from_clause within (take (length rows - i) (drop i rows)) k c.partition_point-count.ensures.partitioned
    (IsPartitionedBy-in_order time_of within (take (length rows - i) (drop i rows)) order_rest (earlier-than c.args.upto)) (λ a r f h. search (rules, of_calls)) in
    sym (filter-point within (take (length rows - i) (drop i rows)) k c.partition_point-count.ensures.bound near)
    ∙ ap (filter within) rest
    ∙ between-parts c.args.from c.args.upto rows
