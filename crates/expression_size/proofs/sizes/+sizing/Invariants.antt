use Rattle.std.proofs.Common.{◌≡◌, map, drop}
use Rattle.expression_size.specs.Sizes as spec
use Rattle.expression_size.proofs.sizes.+sizing.Given as goal

abbrev pub invariant-size_of_expr-loop-part : goal.invariant-size_of_expr-loop-part
invariant-size_of_expr-loop-part l =
    spec.chained l.nodes (map spec.size_of_and (drop l.part-index l.part-items)) ≡
    spec.chained l.initial.nodes (map spec.size_of_and l.part-items)

abbrev pub invariant-size_of_and-loop-part : goal.invariant-size_of_and-loop-part
invariant-size_of_and-loop-part l =
    spec.chained l.nodes (map spec.size_of_not (drop l.part-index l.part-items)) ≡
    spec.chained l.initial.nodes (map spec.size_of_not l.part-items)

abbrev pub invariant-size_of_sum-loop-part : goal.invariant-size_of_sum-loop-part
invariant-size_of_sum-loop-part l =
    spec.chained l.nodes (map spec.size_of_sum_more (drop l.part-index l.part-items)) ≡
    spec.chained l.initial.nodes (map spec.size_of_sum_more l.part-items)

abbrev pub invariant-size_of_prod-loop-part : goal.invariant-size_of_prod-loop-part
invariant-size_of_prod-loop-part l =
    spec.chained l.nodes (map spec.size_of_prod_more (drop l.part-index l.part-items)) ≡
    spec.chained l.initial.nodes (map spec.size_of_prod_more l.part-items)

abbrev pub invariant-size_of_rest-loop-item : goal.invariant-size_of_rest-loop-item
invariant-size_of_rest-loop-item l =
    spec.total l.nodes (map spec.size (drop l.item-index l.item-items)) ≡
    spec.total l.initial.nodes (map spec.size l.item-items)

abbrev pub invariant-size_of_args-loop-arg : goal.invariant-size_of_args-loop-arg
invariant-size_of_args-loop-arg l =
    spec.total l.nodes (map spec.size (drop l.arg-index l.arg-items)) ≡
    spec.total l.initial.nodes (map spec.size l.arg-items)

abbrev pub invariant-size_of_case-loop-when : goal.invariant-size_of_case-loop-when
invariant-size_of_case-loop-when l =
    spec.with_subject l.subject l.nodes (map spec.size_of_when (drop l.when-index l.when-items)) ≡
    spec.with_subject l.subject l.initial.nodes (map spec.size_of_when l.when-items)
