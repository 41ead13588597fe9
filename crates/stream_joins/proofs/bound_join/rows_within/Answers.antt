use Rattle.std.proofs.Common.{rules, of_calls, ◌≡◌, ◌-◌, nat_lt, not, List, take, drop, filter, length, ap, sym, ◌∙◌, arith}
use Rattle.std.specs.List.{flat_map}
use Rattle.std.proofs.lemmas.List.{take_all, take_rest}
use Rattle.std.proofs.lemmas.Result.{IfOk-weaker}
use Rattle.std.proofs.lemmas.List.Sorted.{IsPartitionPoint-from_clause}
use Rattle.event_value.specs.declared.record.Stamped.{Stamped}
use Rattle.row_order.proofs.InOrderLemmas.{filter-in_order}
use Rattle.row_order.specs.InOrder.{in_order}
use Rattle.stream_joins.proofs.LateLemmas.{rows_between-late}
use Rattle.stream_joins.proofs.PartLemmas.{IsPartitionedBy-in_order, earlier-than, filter-point_rest}
use Rattle.stream_joins.specs.Bound.{positive_part, rows_of}
use Rattle.stream_joins.specs.Specs.{bound_of}
use Rattle.stream_op.specs.Rows.{AreInOrder, between, time_of}
use Rattle.stream_joins.proofs.bound_join.rows_within.Goals as goal

pub returns : goal.returns
returns g c =
    let bound = bound_of g.M.Matches.pairs c.args.spec.now in
    let left = c.args.left.now in
    let right = c.args.right.now in
    let from = c.args.stretch.now.from in
    let upto = c.args.stretch.now.upto in
    let i = c.partition_point-first.result in
    let start = from - positive_part bound.high in
    let early = λ (a : Stamped). nat_lt a.time start in
    let rows = rows_of bound right in
    let rest = take (length left - i) (drop i left) in
    let all : take c.loop-row.row-index rest ≡ rest = take_all c.loop-row.row-index rest (omega arith) in
    IfOk-weaker c.put_in_order.result (λ (ordered : List Stamped). ordered ≡ in_order time_of c.loop-row.rows)
    (λ ordered. AreInOrder left → AreInOrder right → ordered ≡ between from upto (in_order time_of (flat_map rows left)))
    (λ ordered is order order_right.
    let point = IsPartitionPoint-from_clause early left i c.partition_point-first.ensures.partitioned
    (IsPartitionedBy-in_order time_of early left order (earlier-than start)) (λ a r f h. search (rules, of_calls)) in
    let late : rest ≡ filter (λ (a : Stamped). not (early a)) left = take_rest left i ∙ sym (filter-point_rest early left i c.partition_point-first.ensures.bound point) in
    is
    ∙ ap (in_order time_of) (c.loop-row.invariant order_right ∙ ap (λ l. between from upto (flat_map rows l)) (all ∙ late) ∙ sym (rows_between-late bound right from upto left))
    ∙ sym (filter-in_order time_of _ (flat_map rows left)))
    c.put_in_order.ensures
