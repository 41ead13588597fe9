-- How many nodes the plan of an expression has, but for casts that typing adds; more than the limit are counted as one past it.
use Rattle.std.specs.Prelude.{ℕ, ◌+◌, nat_le, Bool, true, false, if◌then◌else◌, Option, Some, None, List, [], ◌∷◌}
use Rattle.query_tree.specs.declared.expr.Args.TheOpen.{Args-F, Call-F, Not-F, PredRest-F, Primary-F, Unary-F, And-F, Case-F, Expr-F, Pred-F, Prod-F, ProdMore-F, Sum-F, SumMore-F, When-F}
use Rattle.query_tree.specs.declared.expr.Args.{Args, fold-Args}
use Rattle.query_tree.specs.declared.expr.Call.{Call, fold-Call}
use Rattle.query_tree.specs.declared.expr.Not.{Not, fold-Not}
use Rattle.query_tree.specs.declared.expr.PredRest.{PredRest, fold-PredRest}
use Rattle.query_tree.specs.declared.expr.Primary.{Primary, fold-Primary}
use Rattle.query_tree.specs.declared.expr.Unary.{Unary, fold-Unary}
use Rattle.query_tree.specs.declared.expr.And.{And, fold-And}
use Rattle.query_tree.specs.declared.expr.Case.{Case, fold-Case, out-Case}
use Rattle.query_tree.specs.declared.expr.Expr.{Expr, fold-Expr}
use Rattle.query_tree.specs.declared.expr.Pred.{Pred, fold-Pred}
use Rattle.query_tree.specs.declared.expr.Prod.{Prod, fold-Prod}
use Rattle.query_tree.specs.declared.expr.ProdMore.{ProdMore, fold-ProdMore}
use Rattle.query_tree.specs.declared.expr.Sum.{Sum, fold-Sum}
use Rattle.query_tree.specs.declared.expr.SumMore.{SumMore, fold-SumMore}
use Rattle.query_tree.specs.declared.expr.When.{When, fold-When}
use Rattle.expression_size.specs.declared.sizes.RestSize.{RestSize}

-- the nodes that the plan of one expression may have
abbrev pub max_nodes : ℕ
max_nodes = 65536

-- both counts together, or one past the limit
unfoldable pub plus : ℕ → ℕ → ℕ
plus a b = if nat_le (a + b) max_nodes then a + b else max_nodes + 1

-- a count with those of further parts
abbrev pub total : ℕ → List ℕ → ℕ
total n [] = n
total n (p ∷ ps) = total (plus n p) ps

-- the same where each further part is joined by a node of its own
abbrev pub chained : ℕ → List ℕ → ℕ
chained n [] = n
chained n (p ∷ ps) = chained (plus (plus n p) 1) ps

-- the same where the subject stands beside each further part
abbrev pub with_subject : ℕ → ℕ → List ℕ → ℕ
with_subject subject n [] = n
with_subject subject n (p ∷ ps) = with_subject subject (plus (plus n subject) p) ps

-- a node where NOT is written
abbrev pub negation : Bool → ℕ
negation negated = if negated then 1 else 0

abbrev pub or_nothing : Option ℕ → ℕ
or_nothing None = 0
or_nothing (Some n) = n

-- a subject with its comparison
abbrev pub compared : Option ℕ → ℕ
compared None = 0
compared (Some n) = plus n 1

-- what stands behind a sum: its nodes, and whether the sum stands in the plan twice
abbrev pub behind : Bool → ℕ → RestSize
behind doubles n = record { doubles = doubles; nodes = n }

-- a sum with what stands behind it
abbrev pub with_rest : ℕ → Option RestSize → ℕ
with_rest n None = n
with_rest n (Some r) = plus (if r.doubles then plus n n else n) r.nodes

-- level by level, with the counts of the parts
abbrev pub args_step : Args-F ℕ ℕ ℕ RestSize ℕ ℕ ℕ ℕ ℕ ℕ ℕ ℕ ℕ ℕ ℕ → ℕ
args_step (Args-F.Star place) = 0
args_step (Args-F.Listed place distinct first more) = total first more

abbrev pub call_step : Call-F ℕ ℕ ℕ RestSize ℕ ℕ ℕ ℕ ℕ ℕ ℕ ℕ ℕ ℕ ℕ → ℕ
call_step (Call-F.Cast place word inner to) = plus inner 1
call_step (Call-F.Function place path args) = plus (or_nothing args) 1

abbrev pub not_step : Not-F ℕ ℕ ℕ RestSize ℕ ℕ ℕ ℕ ℕ ℕ ℕ ℕ ℕ ℕ ℕ → ℕ
not_step (Not-F.Negation place inner) = plus inner 1
not_step (Not-F.Pred pred) = pred

abbrev pub rest_step : PredRest-F ℕ ℕ ℕ RestSize ℕ ℕ ℕ ℕ ℕ ℕ ℕ ℕ ℕ ℕ ℕ → RestSize
rest_step (PredRest-F.Compare place rel right) = behind false (plus right 1)
rest_step (PredRest-F.Between place negated low high) =
    behind true (plus (plus low high) (3 + negation negated))
rest_step (PredRest-F.In place negated first more) =
    behind false (plus (total first more) (1 + negation negated))
rest_step (PredRest-F.Like place negated pattern) = behind false (plus pattern (1 + negation negated))
rest_step (PredRest-F.IsNull place negated) = behind false (1 + negation negated)

abbrev pub primary_step : Primary-F ℕ ℕ ℕ RestSize ℕ ℕ ℕ ℕ ℕ ℕ ℕ ℕ ℕ ℕ ℕ → ℕ
primary_step (Primary-F.Number place n) = 1
primary_step (Primary-F.Text place t) = 1
primary_step (Primary-F.Null place) = 1
primary_step (Primary-F.Column path) = 1
primary_step (Primary-F.Call call) = call
primary_step (Primary-F.Case case) = case
primary_step (Primary-F.Nested place inner) = inner

abbrev pub unary_step : Unary-F ℕ ℕ ℕ RestSize ℕ ℕ ℕ ℕ ℕ ℕ ℕ ℕ ℕ ℕ ℕ → ℕ
unary_step (Unary-F.Minus place inner) = plus inner 1
unary_step (Unary-F.Primary primary) = primary

abbrev pub and_step : And-F ℕ ℕ ℕ RestSize ℕ ℕ ℕ ℕ ℕ ℕ ℕ ℕ ℕ ℕ ℕ → ℕ
and_step node = chained node.first node.more

abbrev pub case_step : Case-F ℕ ℕ ℕ RestSize ℕ ℕ ℕ ℕ ℕ ℕ ℕ ℕ ℕ ℕ ℕ → ℕ
case_step node =
    with_subject (compared node.subject) (plus (or_nothing node.otherwise) 1) (node.first ∷ node.more)

abbrev pub expr_step : Expr-F ℕ ℕ ℕ RestSize ℕ ℕ ℕ ℕ ℕ ℕ ℕ ℕ ℕ ℕ ℕ → ℕ
expr_step node = chained node.first node.more

abbrev pub pred_step : Pred-F ℕ ℕ ℕ RestSize ℕ ℕ ℕ ℕ ℕ ℕ ℕ ℕ ℕ ℕ ℕ → ℕ
pred_step node = with_rest node.sum node.rest

abbrev pub prod_step : Prod-F ℕ ℕ ℕ RestSize ℕ ℕ ℕ ℕ ℕ ℕ ℕ ℕ ℕ ℕ ℕ → ℕ
prod_step node = chained node.first node.more

abbrev pub prod_more_step : ProdMore-F ℕ ℕ ℕ RestSize ℕ ℕ ℕ ℕ ℕ ℕ ℕ ℕ ℕ ℕ ℕ → ℕ
prod_more_step node = node.unary

abbrev pub sum_step : Sum-F ℕ ℕ ℕ RestSize ℕ ℕ ℕ ℕ ℕ ℕ ℕ ℕ ℕ ℕ ℕ → ℕ
sum_step node = chained node.first node.more

abbrev pub sum_more_step : SumMore-F ℕ ℕ ℕ RestSize ℕ ℕ ℕ ℕ ℕ ℕ ℕ ℕ ℕ ℕ ℕ → ℕ
sum_more_step node = node.prod

abbrev pub when_step : When-F ℕ ℕ ℕ RestSize ℕ ℕ ℕ ℕ ℕ ℕ ℕ ℕ ℕ ℕ ℕ → ℕ
when_step node = plus node.when node.then

abbrev pub size_of_args : Args → ℕ
size_of_args =
    fold-Args ℕ ℕ ℕ RestSize ℕ ℕ ℕ ℕ ℕ ℕ ℕ ℕ ℕ ℕ ℕ
    args_step call_step not_step rest_step primary_step unary_step and_step case_step expr_step pred_step prod_step prod_more_step sum_step sum_more_step when_step

abbrev pub size_of_call : Call → ℕ
size_of_call =
    fold-Call ℕ ℕ ℕ RestSize ℕ ℕ ℕ ℕ ℕ ℕ ℕ ℕ ℕ ℕ ℕ
    args_step call_step not_step rest_step primary_step unary_step and_step case_step expr_step pred_step prod_step prod_more_step sum_step sum_more_step when_step

abbrev pub size_of_not : Not → ℕ
size_of_not =
    fold-Not ℕ ℕ ℕ RestSize ℕ ℕ ℕ ℕ ℕ ℕ ℕ ℕ ℕ ℕ ℕ
    args_step call_step not_step rest_step primary_step unary_step and_step case_step expr_step pred_step prod_step prod_more_step sum_step sum_more_step when_step

abbrev pub size_of_rest : PredRest → RestSize
size_of_rest =
    fold-PredRest ℕ ℕ ℕ RestSize ℕ ℕ ℕ ℕ ℕ ℕ ℕ ℕ ℕ ℕ ℕ
    args_step call_step not_step rest_step primary_step unary_step and_step case_step expr_step pred_step prod_step prod_more_step sum_step sum_more_step when_step

abbrev pub size_of_primary : Primary → ℕ
size_of_primary =
    fold-Primary ℕ ℕ ℕ RestSize ℕ ℕ ℕ ℕ ℕ ℕ ℕ ℕ ℕ ℕ ℕ
    args_step call_step not_step rest_step primary_step unary_step and_step case_step expr_step pred_step prod_step prod_more_step sum_step sum_more_step when_step

abbrev pub size_of_unary : Unary → ℕ
size_of_unary =
    fold-Unary ℕ ℕ ℕ RestSize ℕ ℕ ℕ ℕ ℕ ℕ ℕ ℕ ℕ ℕ ℕ
    args_step call_step not_step rest_step primary_step unary_step and_step case_step expr_step pred_step prod_step prod_more_step sum_step sum_more_step when_step

abbrev pub size_of_and : And → ℕ
size_of_and =
    fold-And ℕ ℕ ℕ RestSize ℕ ℕ ℕ ℕ ℕ ℕ ℕ ℕ ℕ ℕ ℕ
    args_step call_step not_step rest_step primary_step unary_step and_step case_step expr_step pred_step prod_step prod_more_step sum_step sum_more_step when_step

abbrev pub size_of_case : Case → ℕ
size_of_case =
    fold-Case ℕ ℕ ℕ RestSize ℕ ℕ ℕ ℕ ℕ ℕ ℕ ℕ ℕ ℕ ℕ
    args_step call_step not_step rest_step primary_step unary_step and_step case_step expr_step pred_step prod_step prod_more_step sum_step sum_more_step when_step

-- the nodes of the plan of an expression
abbrev pub size : Expr → ℕ
size =
    fold-Expr ℕ ℕ ℕ RestSize ℕ ℕ ℕ ℕ ℕ ℕ ℕ ℕ ℕ ℕ ℕ
    args_step call_step not_step rest_step primary_step unary_step and_step case_step expr_step pred_step prod_step prod_more_step sum_step sum_more_step when_step

abbrev pub size_of_pred : Pred → ℕ
size_of_pred =
    fold-Pred ℕ ℕ ℕ RestSize ℕ ℕ ℕ ℕ ℕ ℕ ℕ ℕ ℕ ℕ ℕ
    args_step call_step not_step rest_step primary_step unary_step and_step case_step expr_step pred_step prod_step prod_more_step sum_step sum_more_step when_step

abbrev pub size_of_prod : Prod → ℕ
size_of_prod =
    fold-Prod ℕ ℕ ℕ RestSize ℕ ℕ ℕ ℕ ℕ ℕ ℕ ℕ ℕ ℕ ℕ
    args_step call_step not_step rest_step primary_step unary_step and_step case_step expr_step pred_step prod_step prod_more_step sum_step sum_more_step when_step

abbrev pub size_of_prod_more : ProdMore → ℕ
size_of_prod_more =
    fold-ProdMore ℕ ℕ ℕ RestSize ℕ ℕ ℕ ℕ ℕ ℕ ℕ ℕ ℕ ℕ ℕ
    args_step call_step not_step rest_step primary_step unary_step and_step case_step expr_step pred_step prod_step prod_more_step sum_step sum_more_step when_step

abbrev pub size_of_sum : Sum → ℕ
size_of_sum =
    fold-Sum ℕ ℕ ℕ RestSize ℕ ℕ ℕ ℕ ℕ ℕ ℕ ℕ ℕ ℕ ℕ
    args_step call_step not_step rest_step primary_step unary_step and_step case_step expr_step pred_step prod_step prod_more_step sum_step sum_more_step when_step

abbrev pub size_of_sum_more : SumMore → ℕ
size_of_sum_more =
    fold-SumMore ℕ ℕ ℕ RestSize ℕ ℕ ℕ ℕ ℕ ℕ ℕ ℕ ℕ ℕ ℕ
    args_step call_step not_step rest_step primary_step unary_step and_step case_step expr_step pred_step prod_step prod_more_step sum_step sum_more_step when_step

abbrev pub size_of_when : When → ℕ
size_of_when =
    fold-When ℕ ℕ ℕ RestSize ℕ ℕ ℕ ℕ ℕ ℕ ℕ ℕ ℕ ℕ ℕ
    args_step call_step not_step rest_step primary_step unary_step and_step case_step expr_step pred_step prod_step prod_more_step sum_step sum_more_step when_step

-- for private clauses: the parts of a CASE
abbrev pub size_in : Option Expr → Option ℕ
size_in None = None
size_in (Some e) = Some (size e)

abbrev pub size_of_subject : Case → ℕ
size_of_subject case = compared (size_in (out-Case case).subject)

abbrev pub size_of_otherwise : Case → ℕ
size_of_otherwise case = or_nothing (size_in (out-Case case).otherwise)
