-- Inside an opening one fewer is left; beside it the lines of the grammar stand in an order.
use Rattle.std.proofs.Common.{◌≡◌, ◌+◌, ◌*◌, length}
use Rattle.grammar_rules.specs.Readers.{read_repeated}
use Rattle.grammar_rules.proofs.Turns.{joined}
use Rattle.query_tokens.specs.declared.symbol.Symbol.TheVariants as symbol
use Rattle.query_grammar.specs.Lists.{one}
use Rattle.query_grammar.specs.ExpressionGrammar.{sum_symbols, prod_symbols}
use Rattle.query_grammar.specs.Reading.{readers, read_others, read_or_more, read_and_more, read_sum_more, read_prod_more, read_whens}
use Rattle.expression_reader.proofs.+reading.Given as goal

abbrev pub decreases-expressions::inner_expr : goal.decreases-expressions::inner_expr
decreases-expressions::inner_expr l = 28 * l.left + 0

abbrev pub decreases-expressions::inner_not : goal.decreases-expressions::inner_not
decreases-expressions::inner_not l = 28 * l.left + 0

abbrev pub decreases-sums::inner_unary : goal.decreases-sums::inner_unary
decreases-sums::inner_unary l = 28 * l.left + 0

abbrev pub decreases-primaries::next_expr : goal.decreases-primaries::next_expr
decreases-primaries::next_expr l = 28 * l.left + 1

abbrev pub decreases-cases::when : goal.decreases-cases::when
decreases-cases::when l = 28 * l.left + 1

abbrev pub decreases-cases::subject : goal.decreases-cases::subject
decreases-cases::subject l = 28 * l.left + 1

abbrev pub decreases-cases::perhaps_else : goal.decreases-cases::perhaps_else
decreases-cases::perhaps_else l = 28 * l.left + 1

abbrev pub decreases-cases::cast : goal.decreases-cases::cast
decreases-cases::cast l = 28 * l.left + 1

abbrev pub decreases-primaries::nested : goal.decreases-primaries::nested
decreases-primaries::nested l = 28 * l.left + 1

abbrev pub decreases-sums::minus : goal.decreases-sums::minus
decreases-sums::minus l = 28 * l.left + 1

abbrev pub decreases-expressions::negation : goal.decreases-expressions::negation
decreases-expressions::negation l = 28 * l.left + 1

abbrev pub decreases-primaries::more_exprs : goal.decreases-primaries::more_exprs
decreases-primaries::more_exprs l = 28 * l.left + 2

abbrev pub decreases-cases::whens : goal.decreases-cases::whens
decreases-cases::whens l = 28 * l.left + 2

abbrev pub decreases-cases::case_end : goal.decreases-cases::case_end
decreases-cases::case_end l = 28 * l.left + 2

abbrev pub decreases-primaries::arguments : goal.decreases-primaries::arguments
decreases-primaries::arguments l = 28 * l.left + 3

abbrev pub decreases-cases::case : goal.decreases-cases::case
decreases-cases::case l = 28 * l.left + 3

abbrev pub decreases-primaries::perhaps_arguments : goal.decreases-primaries::perhaps_arguments
decreases-primaries::perhaps_arguments l = 28 * l.left + 4

abbrev pub decreases-primaries::call_args : goal.decreases-primaries::call_args
decreases-primaries::call_args l = 28 * l.left + 5

abbrev pub decreases-primaries::column_or_call : goal.decreases-primaries::column_or_call
decreases-primaries::column_or_call l = 28 * l.left + 6

abbrev pub decreases-primaries::primary : goal.decreases-primaries::primary
decreases-primaries::primary l = 28 * l.left + 7

abbrev pub decreases-sums::unary : goal.decreases-sums::unary
decreases-sums::unary l = 28 * l.left + 8

abbrev pub decreases-sums::prod_more : goal.decreases-sums::prod_more
decreases-sums::prod_more l = 28 * l.left + 9

abbrev pub decreases-sums::prods : goal.decreases-sums::prods
decreases-sums::prods l = 28 * l.left + 10

abbrev pub decreases-sums::prod : goal.decreases-sums::prod
decreases-sums::prod l = 28 * l.left + 11

abbrev pub decreases-sums::sum_more : goal.decreases-sums::sum_more
decreases-sums::sum_more l = 28 * l.left + 12

abbrev pub decreases-sums::sums : goal.decreases-sums::sums
decreases-sums::sums l = 28 * l.left + 13

abbrev pub decreases-sums::sum : goal.decreases-sums::sum
decreases-sums::sum l = 28 * l.left + 14

abbrev pub decreases-conditions::between : goal.decreases-conditions::between
decreases-conditions::between l = 28 * l.left + 15

abbrev pub decreases-conditions::like : goal.decreases-conditions::like
decreases-conditions::like l = 28 * l.left + 15

abbrev pub decreases-conditions::compare : goal.decreases-conditions::compare
decreases-conditions::compare l = 28 * l.left + 15

abbrev pub decreases-conditions::in_list : goal.decreases-conditions::in_list
decreases-conditions::in_list l = 28 * l.left + 15

abbrev pub decreases-conditions::negatable_rest : goal.decreases-conditions::negatable_rest
decreases-conditions::negatable_rest l = 28 * l.left + 16

abbrev pub decreases-conditions::negatable : goal.decreases-conditions::negatable
decreases-conditions::negatable l = 28 * l.left + 17

abbrev pub decreases-conditions::pred_rest : goal.decreases-conditions::pred_rest
decreases-conditions::pred_rest l = 28 * l.left + 18

abbrev pub decreases-conditions::perhaps_rest : goal.decreases-conditions::perhaps_rest
decreases-conditions::perhaps_rest l = 28 * l.left + 19

abbrev pub decreases-conditions::pred : goal.decreases-conditions::pred
decreases-conditions::pred l = 28 * l.left + 20

abbrev pub decreases-expressions::not : goal.decreases-expressions::not
decreases-expressions::not l = 28 * l.left + 21

abbrev pub decreases-expressions::and_more : goal.decreases-expressions::and_more
decreases-expressions::and_more l = 28 * l.left + 22

abbrev pub decreases-expressions::ands : goal.decreases-expressions::ands
decreases-expressions::ands l = 28 * l.left + 23

abbrev pub decreases-expressions::conjunction : goal.decreases-expressions::conjunction
decreases-expressions::conjunction l = 28 * l.left + 24

abbrev pub decreases-expressions::or_more : goal.decreases-expressions::or_more
decreases-expressions::or_more l = 28 * l.left + 25

abbrev pub decreases-expressions::ors : goal.decreases-expressions::ors
decreases-expressions::ors l = 28 * l.left + 26

abbrev pub decreases-expressions::expr : goal.decreases-expressions::expr
decreases-expressions::expr l = 28 * l.left + 27

abbrev pub invariant-expressions::ors-ors : goal.invariant-expressions::ors-ors
invariant-expressions::ors-ors l = joined l.more (read_repeated (one symbol.Or) (read_or_more (readers l.fn.left)) l.parser) ≡ read_repeated (one symbol.Or) (read_or_more (readers l.fn.left)) l.fn.parser

abbrev pub decreases-expressions::ors-ors : goal.decreases-expressions::ors-ors
decreases-expressions::ors-ors l = length l.parser

abbrev pub invariant-expressions::ands-ands : goal.invariant-expressions::ands-ands
invariant-expressions::ands-ands l = joined l.more (read_repeated (one symbol.And) (read_and_more (readers l.fn.left)) l.parser) ≡ read_repeated (one symbol.And) (read_and_more (readers l.fn.left)) l.fn.parser

abbrev pub decreases-expressions::ands-ands : goal.decreases-expressions::ands-ands
decreases-expressions::ands-ands l = length l.parser

abbrev pub invariant-sums::sums-sums : goal.invariant-sums::sums-sums
invariant-sums::sums-sums l = joined l.more (read_repeated sum_symbols (read_sum_more (readers l.fn.left)) l.parser) ≡ read_repeated sum_symbols (read_sum_more (readers l.fn.left)) l.fn.parser

abbrev pub decreases-sums::sums-sums : goal.decreases-sums::sums-sums
decreases-sums::sums-sums l = length l.parser

abbrev pub invariant-sums::prods-prods : goal.invariant-sums::prods-prods
invariant-sums::prods-prods l = joined l.more (read_repeated prod_symbols (read_prod_more (readers l.fn.left)) l.parser) ≡ read_repeated prod_symbols (read_prod_more (readers l.fn.left)) l.fn.parser

abbrev pub decreases-sums::prods-prods : goal.decreases-sums::prods-prods
decreases-sums::prods-prods l = length l.parser

abbrev pub invariant-primaries::more_exprs-exprs : goal.invariant-primaries::more_exprs-exprs
invariant-primaries::more_exprs-exprs l = joined l.more (read_others (readers l.fn.left).expr l.parser) ≡ read_others (readers l.fn.left).expr l.fn.parser

abbrev pub decreases-primaries::more_exprs-exprs : goal.decreases-primaries::more_exprs-exprs
decreases-primaries::more_exprs-exprs l = length l.parser

abbrev pub invariant-cases::whens-whens : goal.invariant-cases::whens-whens
invariant-cases::whens-whens l = joined l.more (read_whens (readers l.fn.left) l.parser) ≡ read_whens (readers l.fn.left) l.fn.parser

abbrev pub decreases-cases::whens-whens : goal.decreases-cases::whens-whens
decreases-cases::whens-whens l = length l.parser
