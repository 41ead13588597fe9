use Rattle.std.proofs.Common.{◌≡◌, take}
use Rattle.tree_copies.proofs.expressions.+copies.Given as goal

abbrev pub invariant-copies_of_ands-loop-part : goal.invariant-copies_of_ands-loop-part
invariant-copies_of_ands-loop-part l = l.copied ≡ take l.part-index l.parts

abbrev pub invariant-copies_of_nots-loop-part : goal.invariant-copies_of_nots-loop-part
invariant-copies_of_nots-loop-part l = l.copied ≡ take l.part-index l.parts

abbrev pub invariant-copies_of_sums-loop-part : goal.invariant-copies_of_sums-loop-part
invariant-copies_of_sums-loop-part l = l.copied ≡ take l.part-index l.parts

abbrev pub invariant-copies_of_prods-loop-part : goal.invariant-copies_of_prods-loop-part
invariant-copies_of_prods-loop-part l = l.copied ≡ take l.part-index l.parts

abbrev pub invariant-copies_of_exprs-loop-part : goal.invariant-copies_of_exprs-loop-part
invariant-copies_of_exprs-loop-part l = l.copied ≡ take l.part-index l.parts

abbrev pub invariant-copies_of_whens-loop-part : goal.invariant-copies_of_whens-loop-part
invariant-copies_of_whens-loop-part l = l.copied ≡ take l.part-index l.parts
