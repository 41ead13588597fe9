-- Each loop reads what is repeated.
use Rattle.std.proofs.Common.{rules, refl}
use Rattle.std.proofs.lemmas.Result.{err_from_is_err_and}
use Rattle.grammar_rules.proofs.Turns.{turn_on, turn_stops, turns_end}
use Rattle.query_tokens.specs.declared.symbol.Symbol.TheVariants as symbol
use Rattle.query_tree.specs.declared.expr.Expr.{Expr}
use Rattle.query_tree.specs.declared.expr.And.{And}
use Rattle.query_tree.specs.declared.expr.Not.{Not}
use Rattle.query_tree.specs.declared.expr.SumMore.{SumMore}
use Rattle.query_tree.specs.declared.expr.ProdMore.{ProdMore}
use Rattle.query_tree.specs.declared.expr.When.{When}
use Rattle.query_grammar.specs.Lists.{one}
use Rattle.query_grammar.specs.ExpressionGrammar.{sum_symbols, prod_symbols}
use Rattle.query_grammar.specs.Reading.{readers, read_next, read_or_more, read_and_more, read_sum_more, read_prod_more, read_when, read_whens}
use Rattle.query_grammar.proofs.Takes.{or_more_takes, and_more_takes, sum_more_takes, prod_more_takes, next_expr_takes, when_takes}
use Rattle.expression_reader.proofs.+reading.Goals as goal

pub expressions::ors-ors-smaller : goal.expressions::ors-ors-smaller
expressions::ors-ors-smaller t c = (or_more_takes c.args.left).shorter c.ors.parser _ _ c.in_ok-or_more.ensures.ok

pub expressions::ors-ors-preserved : goal.expressions::ors-ors-preserved
expressions::ors-ors-preserved t c = turn_on And (one symbol.Or) (read_or_more (readers c.args.left)) refl (or_more_takes c.args.left) c.ors.more _ c.ors.parser _ _ _ (search rules) c.in_ok-or_more.ensures.ok c.in_ok-push.ensures.ok c.ors.invariant

pub expressions::ors-returns-in_err-or_more-clause-err : goal.expressions::ors-returns-in_err-or_more-clause-err
expressions::ors-returns-in_err-or_more-clause-err t c =
    let p = err_from_is_err_and c.from_residual.result c.from_residual.ensures.1 in
    rw (p.1, p.2) (turn_stops And (one symbol.Or) (read_or_more (readers c.args.left)) refl (or_more_takes c.args.left) c.ors.more c.ors.parser _ _ _ (search rules) c.in_err-or_more.ensures.err c.ors.invariant)

pub expressions::ors-returns-clause-ok : goal.expressions::ors-returns-clause-ok
expressions::ors-returns-clause-ok t c = turns_end And (one symbol.Or) (read_or_more (readers c.args.left)) refl (or_more_takes c.args.left) c.ors.more c.ors.parser _ (search rules) c.ors.invariant

pub expressions::ands-ands-smaller : goal.expressions::ands-ands-smaller
expressions::ands-ands-smaller t c = (and_more_takes c.args.left).shorter c.ands.parser _ _ c.in_ok-and_more.ensures.ok

pub expressions::ands-ands-preserved : goal.expressions::ands-ands-preserved
expressions::ands-ands-preserved t c = turn_on Not (one symbol.And) (read_and_more (readers c.args.left)) refl (and_more_takes c.args.left) c.ands.more _ c.ands.parser _ _ _ (search rules) c.in_ok-and_more.ensures.ok c.in_ok-push.ensures.ok c.ands.invariant

pub expressions::ands-returns-in_err-and_more-clause-err : goal.expressions::ands-returns-in_err-and_more-clause-err
expressions::ands-returns-in_err-and_more-clause-err t c =
    let p = err_from_is_err_and c.from_residual.result c.from_residual.ensures.1 in
    rw (p.1, p.2) (turn_stops Not (one symbol.And) (read_and_more (readers c.args.left)) refl (and_more_takes c.args.left) c.ands.more c.ands.parser _ _ _ (search rules) c.in_err-and_more.ensures.err c.ands.invariant)

pub expressions::ands-returns-clause-ok : goal.expressions::ands-returns-clause-ok
expressions::ands-returns-clause-ok t c = turns_end Not (one symbol.And) (read_and_more (readers c.args.left)) refl (and_more_takes c.args.left) c.ands.more c.ands.parser _ (search rules) c.ands.invariant

pub sums::sums-sums-smaller : goal.sums::sums-sums-smaller
sums::sums-sums-smaller t c = (sum_more_takes c.args.left).shorter c.sums.parser _ _ c.in_ok-sum_more.ensures.ok

pub sums::sums-sums-preserved : goal.sums::sums-sums-preserved
sums::sums-sums-preserved t c = turn_on SumMore sum_symbols (read_sum_more (readers c.args.left)) refl (sum_more_takes c.args.left) c.sums.more _ c.sums.parser _ _ _ (search rules) c.in_ok-sum_more.ensures.ok c.in_ok-push.ensures.ok c.sums.invariant

pub sums::sums-returns-in_err-sum_more-clause-err : goal.sums::sums-returns-in_err-sum_more-clause-err
sums::sums-returns-in_err-sum_more-clause-err t c =
    let p = err_from_is_err_and c.from_residual.result c.from_residual.ensures.1 in
    rw (p.1, p.2) (turn_stops SumMore sum_symbols (read_sum_more (readers c.args.left)) refl (sum_more_takes c.args.left) c.sums.more c.sums.parser _ _ _ (search rules) c.in_err-sum_more.ensures.err c.sums.invariant)

pub sums::sums-returns-clause-ok : goal.sums::sums-returns-clause-ok
sums::sums-returns-clause-ok t c = turns_end SumMore sum_symbols (read_sum_more (readers c.args.left)) refl (sum_more_takes c.args.left) c.sums.more c.sums.parser _ (search rules) c.sums.invariant

pub sums::prods-prods-smaller : goal.sums::prods-prods-smaller
sums::prods-prods-smaller t c = (prod_more_takes c.args.left).shorter c.prods.parser _ _ c.in_ok-prod_more.ensures.ok

pub sums::prods-prods-preserved : goal.sums::prods-prods-preserved
sums::prods-prods-preserved t c = turn_on ProdMore prod_symbols (read_prod_more (readers c.args.left)) refl (prod_more_takes c.args.left) c.prods.more _ c.prods.parser _ _ _ (search rules) c.in_ok-prod_more.ensures.ok c.in_ok-push.ensures.ok c.prods.invariant

pub sums::prods-returns-in_err-prod_more-clause-err : goal.sums::prods-returns-in_err-prod_more-clause-err
sums::prods-returns-in_err-prod_more-clause-err t c =
    let p = err_from_is_err_and c.from_residual.result c.from_residual.ensures.1 in
    rw (p.1, p.2) (turn_stops ProdMore prod_symbols (read_prod_more (readers c.args.left)) refl (prod_more_takes c.args.left) c.prods.more c.prods.parser _ _ _ (search rules) c.in_err-prod_more.ensures.err c.prods.invariant)

pub sums::prods-returns-clause-ok : goal.sums::prods-returns-clause-ok
sums::prods-returns-clause-ok t c = turns_end ProdMore prod_symbols (read_prod_more (readers c.args.left)) refl (prod_more_takes c.args.left) c.prods.more c.prods.parser _ (search rules) c.prods.invariant

pub primaries::more_exprs-exprs-smaller : goal.primaries::more_exprs-exprs-smaller
primaries::more_exprs-exprs-smaller t c = (next_expr_takes c.args.left c.requires).shorter c.exprs.parser _ _ c.in_ok-next_expr.ensures.ok

pub primaries::more_exprs-exprs-preserved : goal.primaries::more_exprs-exprs-preserved
primaries::more_exprs-exprs-preserved t c = turn_on Expr (one symbol.Comma) (read_next (readers c.args.left).expr) refl (next_expr_takes c.args.left c.requires) c.exprs.more _ c.exprs.parser _ _ _ (search rules) c.in_ok-next_expr.ensures.ok c.in_ok-push.ensures.ok c.exprs.invariant

pub primaries::more_exprs-returns-in_err-next_expr-clause-err : goal.primaries::more_exprs-returns-in_err-next_expr-clause-err
primaries::more_exprs-returns-in_err-next_expr-clause-err t c =
    let p = err_from_is_err_and c.from_residual.result c.from_residual.ensures.1 in
    rw (p.1, p.2) (turn_stops Expr (one symbol.Comma) (read_next (readers c.args.left).expr) refl (next_expr_takes c.args.left c.requires) c.exprs.more c.exprs.parser _ _ _ (search rules) c.in_err-next_expr.ensures.err c.exprs.invariant)

pub primaries::more_exprs-returns-clause-ok : goal.primaries::more_exprs-returns-clause-ok
primaries::more_exprs-returns-clause-ok t c = turns_end Expr (one symbol.Comma) (read_next (readers c.args.left).expr) refl (next_expr_takes c.args.left c.requires) c.exprs.more c.exprs.parser _ (search rules) c.exprs.invariant

pub cases::whens-whens-smaller : goal.cases::whens-whens-smaller
cases::whens-whens-smaller t c = (when_takes c.args.left c.requires).shorter c.whens.parser _ _ c.in_ok-when.ensures.ok

pub cases::whens-whens-preserved : goal.cases::whens-whens-preserved
unfolding read_whens
cases::whens-whens-preserved t c = turn_on When (one symbol.When) (read_when (readers c.args.left)) refl (when_takes c.args.left c.requires) c.whens.more _ c.whens.parser _ _ _ (search rules) c.in_ok-when.ensures.ok c.in_ok-push.ensures.ok c.whens.invariant

pub cases::whens-returns-in_err-when-clause-err : goal.cases::whens-returns-in_err-when-clause-err
unfolding read_whens
cases::whens-returns-in_err-when-clause-err t c =
    let p = err_from_is_err_and c.from_residual.result c.from_residual.ensures.1 in
    rw (p.1, p.2) (turn_stops When (one symbol.When) (read_when (readers c.args.left)) refl (when_takes c.args.left c.requires) c.whens.more c.whens.parser _ _ _ (search rules) c.in_err-when.ensures.err c.whens.invariant)

pub cases::whens-returns-clause-ok : goal.cases::whens-returns-clause-ok
unfolding read_whens
cases::whens-returns-clause-ok t c = turns_end When (one symbol.When) (read_when (readers c.args.left)) refl (when_takes c.args.left c.requires) c.whens.more c.whens.parser _ (search rules) c.whens.invariant
