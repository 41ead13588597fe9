use Rattle.std.proofs.Common.{◌≡◌, map, drop}
use Rattle.query_tokens.specs.declared.symbol.Symbol.TheVariants as symbol
use Rattle.query_print.specs.Expressions.{expr_words, and_words, not_words, sum_more_words, prod_more_words, when_words}
use Rattle.query_print.specs.Writing.{all_written, each_written}
use Rattle.query_print.proofs.+writing.Given as goal

abbrev pub invariant-expressions::write_expr-loop-part : goal.invariant-expressions::write_expr-loop-part
invariant-expressions::write_expr-loop-part l = each_written symbol.Or (map and_words (drop l.part-index l.part-items)) l.out ≡ each_written symbol.Or (map and_words l.part-items) l.initial.out

abbrev pub invariant-expressions::write_and-loop-part : goal.invariant-expressions::write_and-loop-part
invariant-expressions::write_and-loop-part l = each_written symbol.And (map not_words (drop l.part-index l.part-items)) l.out ≡ each_written symbol.And (map not_words l.part-items) l.initial.out

abbrev pub invariant-expressions::write_rest-loop-part : goal.invariant-expressions::write_rest-loop-part
invariant-expressions::write_rest-loop-part l = each_written symbol.Comma (map expr_words (drop l.part-index l.part-items)) l.out ≡ each_written symbol.Comma (map expr_words l.part-items) l.initial.out

abbrev pub invariant-expressions::write_args-loop-part : goal.invariant-expressions::write_args-loop-part
invariant-expressions::write_args-loop-part l = each_written symbol.Comma (map expr_words (drop l.part-index l.part-items)) l.out ≡ each_written symbol.Comma (map expr_words l.part-items) l.initial.out

abbrev pub invariant-expressions::write_sum-loop-part : goal.invariant-expressions::write_sum-loop-part
invariant-expressions::write_sum-loop-part l = all_written (map sum_more_words (drop l.part-index l.part-items)) l.out ≡ all_written (map sum_more_words l.part-items) l.initial.out

abbrev pub invariant-expressions::write_prod-loop-part : goal.invariant-expressions::write_prod-loop-part
invariant-expressions::write_prod-loop-part l = all_written (map prod_more_words (drop l.part-index l.part-items)) l.out ≡ all_written (map prod_more_words l.part-items) l.initial.out

abbrev pub invariant-expressions::write_case-loop-part : goal.invariant-expressions::write_case-loop-part
invariant-expressions::write_case-loop-part l = all_written (map when_words (drop l.part-index l.part-items)) l.out ≡ all_written (map when_words l.part-items) l.initial.out
