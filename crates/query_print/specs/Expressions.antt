-- The words of an expression: level by level, with the words of each part in its place.
use Rattle.std.specs.Prelude.{Bool, if◌then◌else◌, ◌∷◌, [], ◌++◌, List, Option, Some, None}
use Rattle.query_tokens.specs.declared.symbol.Symbol.{Symbol}
use Rattle.query_tokens.specs.declared.symbol.Symbol.TheVariants as symbol
use Rattle.query_tree.specs.declared.name.Name.{Name}
use Rattle.query_tree.specs.declared.name.Path.{Path}
use Rattle.query_tree.specs.declared.name.TypeName.{TypeName}
use Rattle.query_tree.specs.declared.expr.Rel.{Rel}
use Rattle.query_tree.specs.declared.expr.Rel.TheVariants.{Eq, Ne, Lt, Le, Gt, Ge}
use Rattle.query_tree.specs.declared.expr.SumSign.{SumSign}
use Rattle.query_tree.specs.declared.expr.SumSign.TheVariants as sum_sign
use Rattle.query_tree.specs.declared.expr.ProdSign.{ProdSign}
use Rattle.query_tree.specs.declared.expr.ProdSign.TheVariants as prod_sign
use Rattle.query_tree.specs.declared.expr.CastWord.{CastWord}
use Rattle.query_tree.specs.declared.expr.CastWord.TheVariants as cast_word
use Rattle.query_tree.specs.declared.expr.Expr.{Expr, fold-Expr}
use Rattle.query_tree.specs.declared.expr.And.{And, fold-And}
use Rattle.query_tree.specs.declared.expr.Not.{Not, fold-Not}
use Rattle.query_tree.specs.declared.expr.Pred.{Pred, fold-Pred}
use Rattle.query_tree.specs.declared.expr.PredRest.{PredRest, fold-PredRest}
use Rattle.query_tree.specs.declared.expr.Sum.{Sum, fold-Sum}
use Rattle.query_tree.specs.declared.expr.SumMore.{SumMore, fold-SumMore}
use Rattle.query_tree.specs.declared.expr.Prod.{Prod, fold-Prod}
use Rattle.query_tree.specs.declared.expr.ProdMore.{ProdMore, fold-ProdMore}
use Rattle.query_tree.specs.declared.expr.Unary.{Unary, fold-Unary}
use Rattle.query_tree.specs.declared.expr.Primary.{Primary, fold-Primary}
use Rattle.query_tree.specs.declared.expr.Call.{Call, fold-Call}
use Rattle.query_tree.specs.declared.expr.Args.{Args, fold-Args}
use Rattle.query_tree.specs.declared.expr.Case.{Case, fold-Case}
use Rattle.query_tree.specs.declared.expr.When.{When, fold-When}
use Rattle.query_tree.specs.declared.expr.Args.TheOpen.{Args-F, Call-F, Not-F, PredRest-F, Primary-F, Unary-F, And-F, Case-F, Expr-F, Pred-F, Prod-F, ProdMore-F, Sum-F, SumMore-F, When-F}
use Rattle.query_print.specs.Words.{Word, Fixed, Named, Numbered, Quoted}

-- ---- parts

abbrev pub Words : Type 0
Words = List Word

abbrev pub fixed : Symbol → Words
fixed s = Fixed s ∷ []

-- a word that may be absent
abbrev pub flag : Symbol → Bool → Words
flag s written = if written then fixed s else []

-- a part that may be absent
abbrev pub if_there : Option Words → Words
if_there None = []
if_there (Some words) = words

-- each behind a word
abbrev pub each_behind : Symbol → List Words → Words
each_behind s [] = []
each_behind s (words ∷ others) = Fixed s ∷ words ++ each_behind s others

abbrev pub all_words : List Words → Words
all_words [] = []
all_words (words ∷ others) = words ++ all_words others

-- parts with commas
abbrev pub with_commas : Words → List Words → Words
with_commas first others = first ++ each_behind symbol.Comma others

abbrev pub second_name : Option Name → Words
second_name None = []
second_name (Some name) = Fixed symbol.Point ∷ Named name.text ∷ []

abbrev pub path_words : Path → Words
path_words path = Named path.first.text ∷ second_name path.second

abbrev pub type_size : Option Name → Words
type_size None = []
type_size (Some name) = Fixed symbol.Open ∷ Named name.text ∷ Fixed symbol.Close ∷ []

abbrev pub type_words : TypeName → Words
type_words type = Named type.word.text ∷ type_size type.size

abbrev pub rel_symbol : Rel → Symbol
rel_symbol Eq = symbol.Equal
rel_symbol Ne = symbol.Unequal
rel_symbol Lt = symbol.Less
rel_symbol Le = symbol.LessEqual
rel_symbol Gt = symbol.Greater
rel_symbol Ge = symbol.GreaterEqual

abbrev pub sum_symbol : SumSign → Symbol
sum_symbol sum_sign.Plus = symbol.Plus
sum_symbol sum_sign.Minus = symbol.Minus

abbrev pub prod_symbol : ProdSign → Symbol
prod_symbol prod_sign.Star = symbol.Star
prod_symbol prod_sign.Slash = symbol.Slash
prod_symbol prod_sign.Percent = symbol.Percent

abbrev pub cast_symbol : CastWord → Symbol
cast_symbol cast_word.Cast = symbol.Cast
cast_symbol cast_word.TryCast = symbol.TryCast

-- an expression in parentheses
abbrev pub nested_words : Words → Words
nested_words inner = Fixed symbol.Open ∷ inner ++ fixed symbol.Close

-- ---- levels

abbrev pub args_step : Args-F Words Words Words Words Words Words Words Words Words Words Words Words Words Words Words → Words
args_step (Args-F.Star place) = fixed symbol.Star
args_step (Args-F.Listed place distinct first others) = flag symbol.Distinct distinct ++ with_commas first others

abbrev pub call_step : Call-F Words Words Words Words Words Words Words Words Words Words Words Words Words Words Words → Words
call_step (Call-F.Cast place word inner type) =
    Fixed (cast_symbol word) ∷ Fixed symbol.Open ∷ inner ++ (Fixed symbol.As ∷ type_words type ++ fixed symbol.Close)
call_step (Call-F.Function place path arguments) =
    path_words path ++ (Fixed symbol.Open ∷ if_there arguments ++ fixed symbol.Close)

abbrev pub not_step : Not-F Words Words Words Words Words Words Words Words Words Words Words Words Words Words Words → Words
not_step (Not-F.Negation place inner) = Fixed symbol.Not ∷ inner
not_step (Not-F.Pred words) = words

abbrev pub rest_step : PredRest-F Words Words Words Words Words Words Words Words Words Words Words Words Words Words Words → Words
rest_step (PredRest-F.Compare place rel sum) = Fixed (rel_symbol rel) ∷ sum
rest_step (PredRest-F.Between place not low high) =
    flag symbol.Not not ++ (Fixed symbol.Between ∷ low ++ (Fixed symbol.And ∷ high))
rest_step (PredRest-F.In place not first others) =
    flag symbol.Not not ++ (Fixed symbol.In ∷ Fixed symbol.Open ∷ with_commas first others ++ fixed symbol.Close)
rest_step (PredRest-F.Like place not sum) = flag symbol.Not not ++ (Fixed symbol.Like ∷ sum)
rest_step (PredRest-F.IsNull place not) = Fixed symbol.Is ∷ flag symbol.Not not ++ fixed symbol.Null

abbrev pub primary_step : Primary-F Words Words Words Words Words Words Words Words Words Words Words Words Words Words Words → Words
primary_step (Primary-F.Number place number) = Numbered number ∷ []
primary_step (Primary-F.Text place text) = Quoted text ∷ []
primary_step (Primary-F.Null place) = fixed symbol.Null
primary_step (Primary-F.Column path) = path_words path
primary_step (Primary-F.Call words) = words
primary_step (Primary-F.Case words) = words
primary_step (Primary-F.Nested place inner) = nested_words inner

abbrev pub unary_step : Unary-F Words Words Words Words Words Words Words Words Words Words Words Words Words Words Words → Words
unary_step (Unary-F.Minus place inner) = Fixed symbol.Minus ∷ inner
unary_step (Unary-F.Primary words) = words

abbrev pub and_step : And-F Words Words Words Words Words Words Words Words Words Words Words Words Words Words Words → Words
and_step and = and.first ++ each_behind symbol.And and.more

abbrev pub else_part : Option Words → Words
else_part None = []
else_part (Some words) = Fixed symbol.Else ∷ words

abbrev pub case_step : Case-F Words Words Words Words Words Words Words Words Words Words Words Words Words Words Words → Words
case_step case =
    Fixed symbol.Case ∷ if_there case.subject
    ++ (case.first ++ (all_words case.more ++ (else_part case.otherwise ++ fixed symbol.End)))

abbrev pub expr_step : Expr-F Words Words Words Words Words Words Words Words Words Words Words Words Words Words Words → Words
expr_step expr = expr.first ++ each_behind symbol.Or expr.more

abbrev pub pred_step : Pred-F Words Words Words Words Words Words Words Words Words Words Words Words Words Words Words → Words
pred_step pred = pred.sum ++ if_there pred.rest

abbrev pub prod_step : Prod-F Words Words Words Words Words Words Words Words Words Words Words Words Words Words Words → Words
prod_step prod = prod.first ++ all_words prod.more

abbrev pub prod_more_step : ProdMore-F Words Words Words Words Words Words Words Words Words Words Words Words Words Words Words → Words
prod_more_step more = Fixed (prod_symbol more.sign) ∷ more.unary

abbrev pub sum_step : Sum-F Words Words Words Words Words Words Words Words Words Words Words Words Words Words Words → Words
sum_step sum = sum.first ++ all_words sum.more

abbrev pub sum_more_step : SumMore-F Words Words Words Words Words Words Words Words Words Words Words Words Words Words Words → Words
sum_more_step more = Fixed (sum_symbol more.sign) ∷ more.prod

abbrev pub when_step : When-F Words Words Words Words Words Words Words Words Words Words Words Words Words Words Words → Words
when_step when = Fixed symbol.When ∷ when.when ++ (Fixed symbol.Then ∷ when.then)

-- ---- whole parts of the tree

abbrev pub args_words : Args → Words
args_words = fold-Args Words Words Words Words Words Words Words Words Words Words Words Words Words Words Words args_step call_step not_step rest_step primary_step unary_step and_step case_step expr_step pred_step prod_step prod_more_step sum_step sum_more_step when_step

abbrev pub call_words : Call → Words
call_words = fold-Call Words Words Words Words Words Words Words Words Words Words Words Words Words Words Words args_step call_step not_step rest_step primary_step unary_step and_step case_step expr_step pred_step prod_step prod_more_step sum_step sum_more_step when_step

abbrev pub not_words : Not → Words
not_words = fold-Not Words Words Words Words Words Words Words Words Words Words Words Words Words Words Words args_step call_step not_step rest_step primary_step unary_step and_step case_step expr_step pred_step prod_step prod_more_step sum_step sum_more_step when_step

abbrev pub rest_words : PredRest → Words
rest_words = fold-PredRest Words Words Words Words Words Words Words Words Words Words Words Words Words Words Words args_step call_step not_step rest_step primary_step unary_step and_step case_step expr_step pred_step prod_step prod_more_step sum_step sum_more_step when_step

abbrev pub primary_words : Primary → Words
primary_words = fold-Primary Words Words Words Words Words Words Words Words Words Words Words Words Words Words Words args_step call_step not_step rest_step primary_step unary_step and_step case_step expr_step pred_step prod_step prod_more_step sum_step sum_more_step when_step

abbrev pub unary_words : Unary → Words
unary_words = fold-Unary Words Words Words Words Words Words Words Words Words Words Words Words Words Words Words args_step call_step not_step rest_step primary_step unary_step and_step case_step expr_step pred_step prod_step prod_more_step sum_step sum_more_step when_step

abbrev pub and_words : And → Words
and_words = fold-And Words Words Words Words Words Words Words Words Words Words Words Words Words Words Words args_step call_step not_step rest_step primary_step unary_step and_step case_step expr_step pred_step prod_step prod_more_step sum_step sum_more_step when_step

abbrev pub case_words : Case → Words
case_words = fold-Case Words Words Words Words Words Words Words Words Words Words Words Words Words Words Words args_step call_step not_step rest_step primary_step unary_step and_step case_step expr_step pred_step prod_step prod_more_step sum_step sum_more_step when_step

abbrev pub expr_words : Expr → Words
expr_words = fold-Expr Words Words Words Words Words Words Words Words Words Words Words Words Words Words Words args_step call_step not_step rest_step primary_step unary_step and_step case_step expr_step pred_step prod_step prod_more_step sum_step sum_more_step when_step

abbrev pub pred_words : Pred → Words
pred_words = fold-Pred Words Words Words Words Words Words Words Words Words Words Words Words Words Words Words args_step call_step not_step rest_step primary_step unary_step and_step case_step expr_step pred_step prod_step prod_more_step sum_step sum_more_step when_step

abbrev pub prod_words : Prod → Words
prod_words = fold-Prod Words Words Words Words Words Words Words Words Words Words Words Words Words Words Words args_step call_step not_step rest_step primary_step unary_step and_step case_step expr_step pred_step prod_step prod_more_step sum_step sum_more_step when_step

abbrev pub prod_more_words : ProdMore → Words
prod_more_words = fold-ProdMore Words Words Words Words Words Words Words Words Words Words Words Words Words Words Words args_step call_step not_step rest_step primary_step unary_step and_step case_step expr_step pred_step prod_step prod_more_step sum_step sum_more_step when_step

abbrev pub sum_words : Sum → Words
sum_words = fold-Sum Words Words Words Words Words Words Words Words Words Words Words Words Words Words Words args_step call_step not_step rest_step primary_step unary_step and_step case_step expr_step pred_step prod_step prod_more_step sum_step sum_more_step when_step

abbrev pub sum_more_words : SumMore → Words
sum_more_words = fold-SumMore Words Words Words Words Words Words Words Words Words Words Words Words Words Words Words args_step call_step not_step rest_step primary_step unary_step and_step case_step expr_step pred_step prod_step prod_more_step sum_step sum_more_step when_step

abbrev pub when_words : When → Words
when_words = fold-When Words Words Words Words Words Words Words Words Words Words Words Words Words Words Words args_step call_step not_step rest_step primary_step unary_step and_step case_step expr_step pred_step prod_step prod_more_step sum_step sum_more_step when_step
