use Rattle.std.proofs.Common.{◌≡◌, ◌++◌, map, take, drop}
use Rattle.query_senses.specs.Readings as spec
use Rattle.query_senses.proofs.expressions.+reading.Given as goal

abbrev pub invariant-read_or-loop-part : goal.invariant-read_or-loop-part
invariant-read_or-loop-part l =
    l.more ≡ map (spec.reading_of_and l.scope) (take l.part-index l.part-items)

abbrev pub invariant-read_and-loop-part : goal.invariant-read_and-loop-part
invariant-read_and-loop-part l =
    l.more ≡ map (spec.reading_of_not l.scope) (take l.part-index l.part-items)

abbrev pub invariant-read_sum-loop-part : goal.invariant-read_sum-loop-part
invariant-read_sum-loop-part l =
    l.more ≡ map (spec.part_of_sum l.scope) (take l.part-index l.part-items)

abbrev pub invariant-read_prod-loop-part : goal.invariant-read_prod-loop-part
invariant-read_prod-loop-part l =
    l.more ≡ map (spec.part_of_prod l.scope) (take l.part-index l.part-items)

abbrev pub invariant-read_rest-loop-item : goal.invariant-read_rest-loop-item
invariant-read_rest-loop-item l =
    l.parts ++ map (spec.reading l.scope) (drop l.item-index l.item-items) ≡
    l.initial.parts ++ map (spec.reading l.scope) l.item-items

abbrev pub invariant-read_args-loop-arg : goal.invariant-read_args-loop-arg
invariant-read_args-loop-arg l =
    l.parts ++ map (spec.reading l.scope) (drop l.arg-index l.arg-items) ≡
    l.initial.parts ++ map (spec.reading l.scope) l.arg-items

abbrev pub invariant-push_whens-loop-when : goal.invariant-push_whens-loop-when
invariant-push_whens-loop-when l =
    l.parts ++ spec.joined (map (spec.parts_of_when l.scope) (drop l.when-index l.when-items)) ≡
    l.initial.parts ++ spec.joined (map (spec.parts_of_when l.scope) l.when-items)
