use Rattle.std.proofs.Common.{◌≡◌, ◌∙◌, OnOk, subst}
use Rattle.query_tokens.specs.declared.symbol.Symbol.TheVariants as symbol
use Rattle.query_tree.specs.declared.expr.Case.{out-Case}
use Rattle.query_tree.specs.declared.expr.Expr.{out-Expr}
use Rattle.query_tree.specs.declared.expr.Prod.{out-Prod}
use Rattle.query_tree.specs.declared.expr.Sum.{out-Sum}
use Rattle.query_print.specs.Words.{Fixed, Written, with_word, with_words}
use Rattle.query_print.specs.Expressions.{expr_words, and_words, not_words, sum_more_words, prod_words, prod_more_words, unary_words, when_words, case_words, rest_words}
use Rattle.query_print.proofs.PartLemmas.{written_expr, written_and, written_sum, written_prod, written_case, written_listed, written_in, all_done, each_done}
use Rattle.query_print.proofs.+writing.Goals as goal

pub expressions::write_and-returns : goal.expressions::write_and-returns
expressions::write_and-returns t c =
    let written = written_and c.args.out.now c.args.and.now in
    let first : c.write_not.new.out ≡ with_words c.args.out.now (not_words c.args.and.now.first) = c.in_ok-write_not.ensures in
    let items : c.as_slice-part-items.result.now ≡ c.args.and.now.more = c.as_slice-part-items.ensures in
    each_done symbol.And not_words c.as_slice-part-items.result.now c.loop-part.part-index c.loop-part.out c.write_not.new.out c.loop-part-test.false c.loop-part.invariant
    ∙ cc (written, first, items)

pub expressions::write_expr-returns : goal.expressions::write_expr-returns
expressions::write_expr-returns t c =
    let written = written_expr c.args.out.now c.args.expr.now in
    let first : c.write_and.new.out ≡ with_words c.args.out.now (and_words (out-Expr c.args.expr.now).first) = c.in_ok-write_and.ensures in
    let items : c.as_slice-part-items.result.now ≡ (out-Expr c.args.expr.now).more = c.as_slice-part-items.ensures in
    each_done symbol.Or and_words c.as_slice-part-items.result.now c.loop-part.part-index c.loop-part.out c.write_and.new.out c.loop-part-test.false c.loop-part.invariant
    ∙ cc (written, first, items)

pub expressions::write_prod-returns : goal.expressions::write_prod-returns
expressions::write_prod-returns t c =
    let written = written_prod c.args.out.now c.args.prod.now in
    let first : c.write_unary.new.out ≡ with_words c.args.out.now (unary_words (out-Prod c.args.prod.now).first) = c.in_ok-write_unary.ensures in
    let items : c.as_slice-part-items.result.now ≡ (out-Prod c.args.prod.now).more = c.as_slice-part-items.ensures in
    all_done prod_more_words c.as_slice-part-items.result.now c.loop-part.part-index c.loop-part.out c.write_unary.new.out c.loop-part-test.false c.loop-part.invariant
    ∙ cc (written, first, items)

pub expressions::write_sum-returns : goal.expressions::write_sum-returns
expressions::write_sum-returns t c =
    let written = written_sum c.args.out.now c.args.sum.now in
    let first : c.write_prod.new.out ≡ with_words c.args.out.now (prod_words (out-Sum c.args.sum.now).first) = c.in_ok-write_prod.ensures in
    let items : c.as_slice-part-items.result.now ≡ (out-Sum c.args.sum.now).more = c.as_slice-part-items.ensures in
    all_done sum_more_words c.as_slice-part-items.result.now c.loop-part.part-index c.loop-part.out c.write_prod.new.out c.loop-part-test.false c.loop-part.invariant
    ∙ cc (written, first, items)

pub expressions::write_args-returns-after-loop-part : goal.expressions::write_args-returns-after-loop-part
expressions::write_args-returns-after-loop-part t c =
    let done = each_done symbol.Comma expr_words c.as_slice-part-items.result.now c.loop-part.part-index c.loop-part.out c.write_expr.new.out c.loop-part-test.false c.loop-part.invariant in
    let written = written_listed c.args.out.now c.in-Listed.field-0 c.in-Listed.distinct c.in-Listed.first c.in-Listed.more in
    done ∙ cc (written, c.in-Listed.is, c.in_ok-flag-in-Listed.ensures, c.get.ensures, c.in_ok-write_expr-in-Listed.ensures, c.as_slice-part-items.ensures)

pub expressions::write_case-returns : goal.expressions::write_case-returns
expressions::write_case-returns t c =
    let done = all_done when_words c.as_slice-part-items.result.now c.loop-part.part-index c.loop-part.out c.write_when.new.out c.loop-part-test.false c.loop-part.invariant in
    let written = written_case c.args.out.now c.args.case.now in
    let items : c.as_slice-part-items.result.now ≡ (out-Case c.args.case.now).more = c.as_slice-part-items.ensures in
    let all : with_word c.write_otherwise.new.out (Fixed symbol.End) ≡ with_words c.args.out.now (case_words c.args.case.now) =
    cc (written, done, items, c.in_ok-fixed.ensures, c.in_ok-write_subject.ensures, c.in_ok-write_when.ensures, c.in_ok-write_otherwise.ensures) in
    subst (λ (x : Written). OnOk c.fixed-2.result (c.fixed-2.new.self ≡ x)) all c.fixed-2.ensures

pub expressions::write_rest-returns-after-loop-part : goal.expressions::write_rest-returns-after-loop-part
expressions::write_rest-returns-after-loop-part t c =
    let done = each_done symbol.Comma expr_words c.as_slice-part-items.result.now c.loop-part.part-index c.loop-part.out c.write_expr.new.out c.loop-part-test.false c.loop-part.invariant in
    let written = written_in c.args.out.now c.in-In.field-0 c.in-In.not c.in-In.first c.in-In.more in
    let all : with_word c.loop-part.out (Fixed symbol.Close) ≡ with_words c.args.out.now (rest_words c.args.rest.now) =
    cc (written, done, c.in-In.is, c.in_ok-flag-in-In.ensures, c.in_ok-fixed-in-In.ensures, c.in_ok-fixed-in-In-2.ensures, c.get.ensures, c.in_ok-write_expr-in-In.ensures, c.as_slice-part-items.ensures) in
    subst (λ (x : Written). OnOk c.fixed-in-In-3.result (c.fixed-in-In-3.new.self ≡ x)) all c.fixed-in-In-3.ensures
