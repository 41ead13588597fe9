-- The words of each node of an expression.
use Rattle.std.proofs.Common.{◌≡◌, ℕ, List, [], ◌∷◌, ◌++◌, Bool, ap, sym, ◌∙◌, map}
use Rattle.std.specs.Prelude.{Option, Some, None}
use Rattle.query_tokens.specs.declared.symbol.Symbol.TheVariants as symbol
use Rattle.query_tree.specs.declared.name.Number.{Number}
use Rattle.query_tree.specs.declared.name.Path.{Path}
use Rattle.query_tree.specs.declared.name.TypeName.{TypeName}
use Rattle.query_tree.specs.declared.expr.Rel.{Rel}
use Rattle.query_tree.specs.declared.expr.SumSign.{SumSign}
use Rattle.query_tree.specs.declared.expr.CastWord.{CastWord}
use Rattle.query_tree.specs.declared.expr.Args.{Args, fold-roll-Args}
use Rattle.query_tree.specs.declared.expr.Call.{Call, fold-roll-Call}
use Rattle.query_tree.specs.declared.expr.Not.{Not, fold-roll-Not}
use Rattle.query_tree.specs.declared.expr.PredRest.{PredRest, fold-roll-PredRest}
use Rattle.query_tree.specs.declared.expr.Primary.{Primary, fold-roll-Primary}
use Rattle.query_tree.specs.declared.expr.Unary.{Unary, fold-roll-Unary}
use Rattle.query_tree.specs.declared.expr.And.{And}
use Rattle.query_tree.specs.declared.expr.Case.{Case, roll-Case, fold-roll-Case}
use Rattle.query_tree.specs.declared.expr.Expr.{Expr, roll-Expr, fold-roll-Expr}
use Rattle.query_tree.specs.declared.expr.Pred.{Pred, roll-Pred, fold-roll-Pred}
use Rattle.query_tree.specs.declared.expr.Prod.{Prod, roll-Prod, fold-roll-Prod}
use Rattle.query_tree.specs.declared.expr.ProdMore.{ProdMore}
use Rattle.query_tree.specs.declared.expr.Sum.{Sum, roll-Sum, fold-roll-Sum}
use Rattle.query_tree.specs.declared.expr.SumMore.{SumMore, roll-SumMore, fold-roll-SumMore}
use Rattle.query_tree.specs.declared.expr.When.{When, roll-When, fold-roll-When}
use Rattle.query_tree.specs.declared.expr.Args.TheVariants as args
use Rattle.query_tree.specs.declared.expr.Call.TheVariants as call
use Rattle.query_tree.specs.declared.expr.Not.TheVariants as nots
use Rattle.query_tree.specs.declared.expr.PredRest.TheVariants as rest
use Rattle.query_tree.specs.declared.expr.Primary.TheVariants as primary
use Rattle.query_tree.specs.declared.expr.Unary.TheVariants as unary
use Rattle.query_tree.specs.declared.expr.Args.TheFolds.{fold_out-And, fold_out-ProdMore}
use Rattle.query_tree.specs.declared.expr.Args.TheOpen.{Args-F, Call-F, Not-F, PredRest-F, Primary-F, Unary-F}
use Rattle.query_print.specs.Words.{Fixed, Numbered, Quoted}
use Rattle.query_print.specs.Expressions.{Words, fixed, flag, each_behind, all_words, path_words, type_words, rel_symbol, sum_symbol, prod_symbol, cast_symbol, args_step, call_step, not_step, rest_step, primary_step, unary_step, and_step, case_step, expr_step, pred_step, prod_step, prod_more_step, sum_step, sum_more_step, when_step, args_words, call_words, not_words, rest_words, primary_words, unary_words, and_words, case_words, expr_words, pred_words, prod_words, prod_more_words, sum_words, sum_more_words, when_words}
use Rattle.query_print.specs.Scripts.{optional, listed as listed_words}

-- ELSE and an expression
abbrev pub else_words : Expr → Words
else_words e = Fixed symbol.Else ∷ expr_words e

pub spelt-Args-Star : (place : ℕ) → args_words (args.Star place) ≡ fixed symbol.Star
spelt-Args-Star place = ap args_words (sym (args.rolls-Star place)) ∙ fold-roll-Args Words Words Words Words Words Words Words Words Words Words Words Words Words Words Words args_step call_step not_step rest_step primary_step unary_step and_step case_step expr_step pred_step prod_step prod_more_step sum_step sum_more_step when_step (Args-F.Star place)

pub spelt-Args-Listed : (place : ℕ) (distinct : Bool) (first : Expr) (more : List Expr) → args_words (args.Listed place distinct first more) ≡ flag symbol.Distinct distinct ++ listed_words expr_words first more
spelt-Args-Listed place distinct first more = ap args_words (sym (args.rolls-Listed place distinct first more)) ∙ fold-roll-Args Words Words Words Words Words Words Words Words Words Words Words Words Words Words Words args_step call_step not_step rest_step primary_step unary_step and_step case_step expr_step pred_step prod_step prod_more_step sum_step sum_more_step when_step (Args-F.Listed place distinct first more)

pub spelt-Call-Cast : (place : ℕ) (word : CastWord) (inner : Expr) (type : TypeName) → call_words (call.Cast place word inner type) ≡ Fixed (cast_symbol word) ∷ Fixed symbol.Open ∷ expr_words inner ++ (Fixed symbol.As ∷ type_words type ++ fixed symbol.Close)
spelt-Call-Cast place word inner type = ap call_words (sym (call.rolls-Cast place word inner type)) ∙ fold-roll-Call Words Words Words Words Words Words Words Words Words Words Words Words Words Words Words args_step call_step not_step rest_step primary_step unary_step and_step case_step expr_step pred_step prod_step prod_more_step sum_step sum_more_step when_step (Call-F.Cast place word inner type)

pub spelt-Call-Function : (place : ℕ) (path : Path) (arguments : Option Args) → call_words (call.Function place path arguments) ≡ path_words path ++ (Fixed symbol.Open ∷ optional args_words arguments ++ fixed symbol.Close)
spelt-Call-Function place path None = ap call_words (sym (call.rolls-Function place path None)) ∙ fold-roll-Call Words Words Words Words Words Words Words Words Words Words Words Words Words Words Words args_step call_step not_step rest_step primary_step unary_step and_step case_step expr_step pred_step prod_step prod_more_step sum_step sum_more_step when_step (Call-F.Function place path None)
spelt-Call-Function place path (Some x) = ap call_words (sym (call.rolls-Function place path (Some x))) ∙ fold-roll-Call Words Words Words Words Words Words Words Words Words Words Words Words Words Words Words args_step call_step not_step rest_step primary_step unary_step and_step case_step expr_step pred_step prod_step prod_more_step sum_step sum_more_step when_step (Call-F.Function place path (Some x))

pub spelt-Not-Negation : (place : ℕ) (inner : Not) → not_words (nots.Negation place inner) ≡ Fixed symbol.Not ∷ not_words inner
spelt-Not-Negation place inner = ap not_words (sym (nots.rolls-Negation place inner)) ∙ fold-roll-Not Words Words Words Words Words Words Words Words Words Words Words Words Words Words Words args_step call_step not_step rest_step primary_step unary_step and_step case_step expr_step pred_step prod_step prod_more_step sum_step sum_more_step when_step (Not-F.Negation place inner)

pub spelt-Not-Pred : (pred : Pred) → not_words (nots.Pred pred) ≡ pred_words pred
spelt-Not-Pred pred = ap not_words (sym (nots.rolls-Pred pred)) ∙ fold-roll-Not Words Words Words Words Words Words Words Words Words Words Words Words Words Words Words args_step call_step not_step rest_step primary_step unary_step and_step case_step expr_step pred_step prod_step prod_more_step sum_step sum_more_step when_step (Not-F.Pred pred)

pub spelt-PredRest-Compare : (place : ℕ) (rel : Rel) (sum : Sum) → rest_words (rest.Compare place rel sum) ≡ Fixed (rel_symbol rel) ∷ sum_words sum
spelt-PredRest-Compare place rel sum = ap rest_words (sym (rest.rolls-Compare place rel sum)) ∙ fold-roll-PredRest Words Words Words Words Words Words Words Words Words Words Words Words Words Words Words args_step call_step not_step rest_step primary_step unary_step and_step case_step expr_step pred_step prod_step prod_more_step sum_step sum_more_step when_step (PredRest-F.Compare place rel sum)

pub spelt-PredRest-Between : (place : ℕ) (negated : Bool) (low : Sum) (high : Sum) → rest_words (rest.Between place negated low high) ≡ flag symbol.Not negated ++ (Fixed symbol.Between ∷ sum_words low ++ (Fixed symbol.And ∷ sum_words high))
spelt-PredRest-Between place negated low high = ap rest_words (sym (rest.rolls-Between place negated low high)) ∙ fold-roll-PredRest Words Words Words Words Words Words Words Words Words Words Words Words Words Words Words args_step call_step not_step rest_step primary_step unary_step and_step case_step expr_step pred_step prod_step prod_more_step sum_step sum_more_step when_step (PredRest-F.Between place negated low high)

pub spelt-PredRest-In : (place : ℕ) (negated : Bool) (first : Expr) (more : List Expr) → rest_words (rest.In place negated first more) ≡ flag symbol.Not negated ++ (Fixed symbol.In ∷ Fixed symbol.Open ∷ listed_words expr_words first more ++ fixed symbol.Close)
spelt-PredRest-In place negated first more = ap rest_words (sym (rest.rolls-In place negated first more)) ∙ fold-roll-PredRest Words Words Words Words Words Words Words Words Words Words Words Words Words Words Words args_step call_step not_step rest_step primary_step unary_step and_step case_step expr_step pred_step prod_step prod_more_step sum_step sum_more_step when_step (PredRest-F.In place negated first more)

pub spelt-PredRest-Like : (place : ℕ) (negated : Bool) (sum : Sum) → rest_words (rest.Like place negated sum) ≡ flag symbol.Not negated ++ (Fixed symbol.Like ∷ sum_words sum)
spelt-PredRest-Like place negated sum = ap rest_words (sym (rest.rolls-Like place negated sum)) ∙ fold-roll-PredRest Words Words Words Words Words Words Words Words Words Words Words Words Words Words Words args_step call_step not_step rest_step primary_step unary_step and_step case_step expr_step pred_step prod_step prod_more_step sum_step sum_more_step when_step (PredRest-F.Like place negated sum)

pub spelt-PredRest-IsNull : (place : ℕ) (negated : Bool) → rest_words (rest.IsNull place negated) ≡ Fixed symbol.Is ∷ flag symbol.Not negated ++ fixed symbol.Null
spelt-PredRest-IsNull place negated = ap rest_words (sym (rest.rolls-IsNull place negated)) ∙ fold-roll-PredRest Words Words Words Words Words Words Words Words Words Words Words Words Words Words Words args_step call_step not_step rest_step primary_step unary_step and_step case_step expr_step pred_step prod_step prod_more_step sum_step sum_more_step when_step (PredRest-F.IsNull place negated)

pub spelt-Primary-Number : (place : ℕ) (number : Number) → primary_words (primary.Number place number) ≡ Numbered number ∷ []
spelt-Primary-Number place number = ap primary_words (sym (primary.rolls-Number place number)) ∙ fold-roll-Primary Words Words Words Words Words Words Words Words Words Words Words Words Words Words Words args_step call_step not_step rest_step primary_step unary_step and_step case_step expr_step pred_step prod_step prod_more_step sum_step sum_more_step when_step (Primary-F.Number place number)

pub spelt-Primary-Text : (place : ℕ) (text : List ℕ) → primary_words (primary.Text place text) ≡ Quoted text ∷ []
spelt-Primary-Text place text = ap primary_words (sym (primary.rolls-Text place text)) ∙ fold-roll-Primary Words Words Words Words Words Words Words Words Words Words Words Words Words Words Words args_step call_step not_step rest_step primary_step unary_step and_step case_step expr_step pred_step prod_step prod_more_step sum_step sum_more_step when_step (Primary-F.Text place text)

pub spelt-Primary-Null : (place : ℕ) → primary_words (primary.Null place) ≡ fixed symbol.Null
spelt-Primary-Null place = ap primary_words (sym (primary.rolls-Null place)) ∙ fold-roll-Primary Words Words Words Words Words Words Words Words Words Words Words Words Words Words Words args_step call_step not_step rest_step primary_step unary_step and_step case_step expr_step pred_step prod_step prod_more_step sum_step sum_more_step when_step (Primary-F.Null place)

pub spelt-Primary-Column : (path : Path) → primary_words (primary.Column path) ≡ path_words path
spelt-Primary-Column path = ap primary_words (sym (primary.rolls-Column path)) ∙ fold-roll-Primary Words Words Words Words Words Words Words Words Words Words Words Words Words Words Words args_step call_step not_step rest_step primary_step unary_step and_step case_step expr_step pred_step prod_step prod_more_step sum_step sum_more_step when_step (Primary-F.Column path)

pub spelt-Primary-Call : (inner : Call) → primary_words (primary.Call inner) ≡ call_words inner
spelt-Primary-Call inner = ap primary_words (sym (primary.rolls-Call inner)) ∙ fold-roll-Primary Words Words Words Words Words Words Words Words Words Words Words Words Words Words Words args_step call_step not_step rest_step primary_step unary_step and_step case_step expr_step pred_step prod_step prod_more_step sum_step sum_more_step when_step (Primary-F.Call inner)

pub spelt-Primary-Case : (inner : Case) → primary_words (primary.Case inner) ≡ case_words inner
spelt-Primary-Case inner = ap primary_words (sym (primary.rolls-Case inner)) ∙ fold-roll-Primary Words Words Words Words Words Words Words Words Words Words Words Words Words Words Words args_step call_step not_step rest_step primary_step unary_step and_step case_step expr_step pred_step prod_step prod_more_step sum_step sum_more_step when_step (Primary-F.Case inner)

pub spelt-Primary-Nested : (place : ℕ) (inner : Expr) → primary_words (primary.Nested place inner) ≡ Fixed symbol.Open ∷ expr_words inner ++ fixed symbol.Close
spelt-Primary-Nested place inner = ap primary_words (sym (primary.rolls-Nested place inner)) ∙ fold-roll-Primary Words Words Words Words Words Words Words Words Words Words Words Words Words Words Words args_step call_step not_step rest_step primary_step unary_step and_step case_step expr_step pred_step prod_step prod_more_step sum_step sum_more_step when_step (Primary-F.Nested place inner)

pub spelt-Unary-Minus : (place : ℕ) (inner : Unary) → unary_words (unary.Minus place inner) ≡ Fixed symbol.Minus ∷ unary_words inner
spelt-Unary-Minus place inner = ap unary_words (sym (unary.rolls-Minus place inner)) ∙ fold-roll-Unary Words Words Words Words Words Words Words Words Words Words Words Words Words Words Words args_step call_step not_step rest_step primary_step unary_step and_step case_step expr_step pred_step prod_step prod_more_step sum_step sum_more_step when_step (Unary-F.Minus place inner)

pub spelt-Unary-Primary : (inner : Primary) → unary_words (unary.Primary inner) ≡ primary_words inner
spelt-Unary-Primary inner = ap unary_words (sym (unary.rolls-Primary inner)) ∙ fold-roll-Unary Words Words Words Words Words Words Words Words Words Words Words Words Words Words Words args_step call_step not_step rest_step primary_step unary_step and_step case_step expr_step pred_step prod_step prod_more_step sum_step sum_more_step when_step (Unary-F.Primary inner)

pub spelt-Case : (place : ℕ) (subject : Option Expr) (first : When) (more : List When) (otherwise : Option Expr) → case_words (roll-Case (record { place = place; subject = subject; first = first; more = more; otherwise = otherwise })) ≡ Fixed symbol.Case ∷ optional expr_words subject ++ (when_words first ++ (all_words (map when_words more) ++ (optional else_words otherwise ++ fixed symbol.End)))
spelt-Case place None first more None = fold-roll-Case Words Words Words Words Words Words Words Words Words Words Words Words Words Words Words args_step call_step not_step rest_step primary_step unary_step and_step case_step expr_step pred_step prod_step prod_more_step sum_step sum_more_step when_step (record { place = place; subject = None; first = first; more = more; otherwise = None })
spelt-Case place None first more (Some x) = fold-roll-Case Words Words Words Words Words Words Words Words Words Words Words Words Words Words Words args_step call_step not_step rest_step primary_step unary_step and_step case_step expr_step pred_step prod_step prod_more_step sum_step sum_more_step when_step (record { place = place; subject = None; first = first; more = more; otherwise = Some x })
spelt-Case place (Some x) first more None = fold-roll-Case Words Words Words Words Words Words Words Words Words Words Words Words Words Words Words args_step call_step not_step rest_step primary_step unary_step and_step case_step expr_step pred_step prod_step prod_more_step sum_step sum_more_step when_step (record { place = place; subject = Some x; first = first; more = more; otherwise = None })
spelt-Case place (Some x) first more (Some y) = fold-roll-Case Words Words Words Words Words Words Words Words Words Words Words Words Words Words Words args_step call_step not_step rest_step primary_step unary_step and_step case_step expr_step pred_step prod_step prod_more_step sum_step sum_more_step when_step (record { place = place; subject = Some x; first = first; more = more; otherwise = Some y })

pub spelt-Expr : (place : ℕ) (first : And) (more : List And) → expr_words (roll-Expr (record { place = place; first = first; more = more })) ≡ and_words first ++ each_behind symbol.Or (map and_words more)
spelt-Expr place first more = fold-roll-Expr Words Words Words Words Words Words Words Words Words Words Words Words Words Words Words args_step call_step not_step rest_step primary_step unary_step and_step case_step expr_step pred_step prod_step prod_more_step sum_step sum_more_step when_step (record { place = place; first = first; more = more })

pub spelt-Pred : (place : ℕ) (sum : Sum) (rest : Option PredRest) → pred_words (roll-Pred (record { place = place; sum = sum; rest = rest })) ≡ sum_words sum ++ optional rest_words rest
spelt-Pred place sum None = fold-roll-Pred Words Words Words Words Words Words Words Words Words Words Words Words Words Words Words args_step call_step not_step rest_step primary_step unary_step and_step case_step expr_step pred_step prod_step prod_more_step sum_step sum_more_step when_step (record { place = place; sum = sum; rest = None })
spelt-Pred place sum (Some x) = fold-roll-Pred Words Words Words Words Words Words Words Words Words Words Words Words Words Words Words args_step call_step not_step rest_step primary_step unary_step and_step case_step expr_step pred_step prod_step prod_more_step sum_step sum_more_step when_step (record { place = place; sum = sum; rest = Some x })

pub spelt-Prod : (place : ℕ) (first : Unary) (more : List ProdMore) → prod_words (roll-Prod (record { place = place; first = first; more = more })) ≡ unary_words first ++ all_words (map prod_more_words more)
spelt-Prod place first more = fold-roll-Prod Words Words Words Words Words Words Words Words Words Words Words Words Words Words Words args_step call_step not_step rest_step primary_step unary_step and_step case_step expr_step pred_step prod_step prod_more_step sum_step sum_more_step when_step (record { place = place; first = first; more = more })

pub spelt-Sum : (place : ℕ) (first : Prod) (more : List SumMore) → sum_words (roll-Sum (record { place = place; first = first; more = more })) ≡ prod_words first ++ all_words (map sum_more_words more)
spelt-Sum place first more = fold-roll-Sum Words Words Words Words Words Words Words Words Words Words Words Words Words Words Words args_step call_step not_step rest_step primary_step unary_step and_step case_step expr_step pred_step prod_step prod_more_step sum_step sum_more_step when_step (record { place = place; first = first; more = more })

pub spelt-SumMore : (place : ℕ) (sign : SumSign) (prod : Prod) → sum_more_words (roll-SumMore (record { place = place; sign = sign; prod = prod })) ≡ Fixed (sum_symbol sign) ∷ prod_words prod
spelt-SumMore place sign prod = fold-roll-SumMore Words Words Words Words Words Words Words Words Words Words Words Words Words Words Words args_step call_step not_step rest_step primary_step unary_step and_step case_step expr_step pred_step prod_step prod_more_step sum_step sum_more_step when_step (record { place = place; sign = sign; prod = prod })

pub spelt-When : (place : ℕ) (when : Expr) (then : Expr) → when_words (roll-When (record { place = place; when = when; then = then })) ≡ Fixed symbol.When ∷ expr_words when ++ (Fixed symbol.Then ∷ expr_words then)
spelt-When place when then = fold-roll-When Words Words Words Words Words Words Words Words Words Words Words Words Words Words Words args_step call_step not_step rest_step primary_step unary_step and_step case_step expr_step pred_step prod_step prod_more_step sum_step sum_more_step when_step (record { place = place; when = when; then = then })

pub spelt-And : (n : And) → and_words n ≡ not_words n.first ++ each_behind symbol.And (map not_words n.more)
spelt-And n = fold_out-And Words Words Words Words Words Words Words Words Words Words Words Words Words Words Words args_step call_step not_step rest_step primary_step unary_step and_step case_step expr_step pred_step prod_step prod_more_step sum_step sum_more_step when_step n

pub spelt-ProdMore : (n : ProdMore) → prod_more_words n ≡ Fixed (prod_symbol n.sign) ∷ unary_words n.unary
spelt-ProdMore n = fold_out-ProdMore Words Words Words Words Words Words Words Words Words Words Words Words Words Words Words args_step call_step not_step rest_step primary_step unary_step and_step case_step expr_step pred_step prod_step prod_more_step sum_step sum_more_step when_step n
