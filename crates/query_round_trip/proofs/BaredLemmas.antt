-- Each node of an expression without its places.
use Rattle.std.proofs.Common.{◌≡◌, ℕ, List, Bool, ap, sym, ◌∙◌, map}
use Rattle.std.specs.Prelude.{Option, Some, None}
use Rattle.std.specs.Option.{option_map}
use Rattle.query_tree.specs.declared.name.Number.{Number}
use Rattle.query_tree.specs.declared.name.Path.{Path}
use Rattle.query_tree.specs.declared.name.TypeName.{TypeName}
use Rattle.query_tree.specs.declared.expr.Rel.{Rel}
use Rattle.query_tree.specs.declared.expr.SumSign.{SumSign}
use Rattle.query_tree.specs.declared.expr.CastWord.{CastWord}
use Rattle.query_tree.specs.declared.expr.Args.{Args, fold-roll-Args}
use Rattle.query_tree.specs.declared.expr.Call.{Call, fold-roll-Call}
use Rattle.query_tree.specs.declared.expr.Not.{Not, fold-roll-Not}
use Rattle.query_tree.specs.declared.expr.PredRest.{PredRest, fold-roll-PredRest}
use Rattle.query_tree.specs.declared.expr.Primary.{Primary, fold-roll-Primary}
use Rattle.query_tree.specs.declared.expr.Unary.{Unary, fold-roll-Unary}
use Rattle.query_tree.specs.declared.expr.And.{And}
use Rattle.query_tree.specs.declared.expr.Case.{Case, roll-Case, fold-roll-Case}
use Rattle.query_tree.specs.declared.expr.Expr.{Expr, roll-Expr, fold-roll-Expr}
use Rattle.query_tree.specs.declared.expr.Pred.{Pred, roll-Pred, fold-roll-Pred}
use Rattle.query_tree.specs.declared.expr.Prod.{Prod, roll-Prod, fold-roll-Prod}
use Rattle.query_tree.specs.declared.expr.ProdMore.{ProdMore}
use Rattle.query_tree.specs.declared.expr.Sum.{Sum, roll-Sum, fold-roll-Sum}
use Rattle.query_tree.specs.declared.expr.SumMore.{SumMore, roll-SumMore, fold-roll-SumMore}
use Rattle.query_tree.specs.declared.expr.When.{When, roll-When, fold-roll-When}
use Rattle.query_tree.specs.declared.expr.Args.TheVariants as args
use Rattle.query_tree.specs.declared.expr.Call.TheVariants as call
use Rattle.query_tree.specs.declared.expr.Not.TheVariants as nots
use Rattle.query_tree.specs.declared.expr.PredRest.TheVariants as rest
use Rattle.query_tree.specs.declared.expr.Primary.TheVariants as primary
use Rattle.query_tree.specs.declared.expr.Unary.TheVariants as unary
use Rattle.query_tree.specs.declared.expr.Args.TheFolds.{fold_out-And, fold_out-ProdMore}
use Rattle.query_tree.specs.declared.expr.Args.TheOpen.{Args-F, Call-F, Not-F, PredRest-F, Primary-F, Unary-F}
use Rattle.query_print.specs.Unplaced.{bare_path, bare_type, args_step, call_step, not_step, rest_step, primary_step, unary_step, and_step, case_step, expr_step, pred_step, prod_step, prod_more_step, sum_step, sum_more_step, when_step, bare_args, bare_call, bare_not, bare_rest, bare_primary, bare_unary, bare_and, bare_case, bare_expr, bare_pred, bare_prod, bare_prod_more, bare_sum, bare_sum_more, bare_when}

pub bared-Args-Star : (place : ℕ) → bare_args (args.Star place) ≡ args.Star 0
bared-Args-Star place = ap bare_args (sym (args.rolls-Star place)) ∙ fold-roll-Args Args Call Not PredRest Primary Unary And Case Expr Pred Prod ProdMore Sum SumMore When args_step call_step not_step rest_step primary_step unary_step and_step case_step expr_step pred_step prod_step prod_more_step sum_step sum_more_step when_step (Args-F.Star place)

pub bared-Args-Listed : (place : ℕ) (distinct : Bool) (first : Expr) (more : List Expr) → bare_args (args.Listed place distinct first more) ≡ args.Listed 0 distinct (bare_expr first) (map bare_expr more)
bared-Args-Listed place distinct first more = ap bare_args (sym (args.rolls-Listed place distinct first more)) ∙ fold-roll-Args Args Call Not PredRest Primary Unary And Case Expr Pred Prod ProdMore Sum SumMore When args_step call_step not_step rest_step primary_step unary_step and_step case_step expr_step pred_step prod_step prod_more_step sum_step sum_more_step when_step (Args-F.Listed place distinct first more)

pub bared-Call-Cast : (place : ℕ) (word : CastWord) (inner : Expr) (type : TypeName) → bare_call (call.Cast place word inner type) ≡ call.Cast 0 word (bare_expr inner) (bare_type type)
bared-Call-Cast place word inner type = ap bare_call (sym (call.rolls-Cast place word inner type)) ∙ fold-roll-Call Args Call Not PredRest Primary Unary And Case Expr Pred Prod ProdMore Sum SumMore When args_step call_step not_step rest_step primary_step unary_step and_step case_step expr_step pred_step prod_step prod_more_step sum_step sum_more_step when_step (Call-F.Cast place word inner type)

pub bared-Call-Function : (place : ℕ) (path : Path) (arguments : Option Args) → bare_call (call.Function place path arguments) ≡ call.Function 0 (bare_path path) (option_map bare_args arguments)
bared-Call-Function place path None = ap bare_call (sym (call.rolls-Function place path None)) ∙ fold-roll-Call Args Call Not PredRest Primary Unary And Case Expr Pred Prod ProdMore Sum SumMore When args_step call_step not_step rest_step primary_step unary_step and_step case_step expr_step pred_step prod_step prod_more_step sum_step sum_more_step when_step (Call-F.Function place path None)
bared-Call-Function place path (Some x) = ap bare_call (sym (call.rolls-Function place path (Some x))) ∙ fold-roll-Call Args Call Not PredRest Primary Unary And Case Expr Pred Prod ProdMore Sum SumMore When args_step call_step not_step rest_step primary_step unary_step and_step case_step expr_step pred_step prod_step prod_more_step sum_step sum_more_step when_step (Call-F.Function place path (Some x))

pub bared-Not-Negation : (place : ℕ) (inner : Not) → bare_not (nots.Negation place inner) ≡ nots.Negation 0 (bare_not inner)
bared-Not-Negation place inner = ap bare_not (sym (nots.rolls-Negation place inner)) ∙ fold-roll-Not Args Call Not PredRest Primary Unary And Case Expr Pred Prod ProdMore Sum SumMore When args_step call_step not_step rest_step primary_step unary_step and_step case_step expr_step pred_step prod_step prod_more_step sum_step sum_more_step when_step (Not-F.Negation place inner)

pub bared-Not-Pred : (pred : Pred) → bare_not (nots.Pred pred) ≡ nots.Pred (bare_pred pred)
bared-Not-Pred pred = ap bare_not (sym (nots.rolls-Pred pred)) ∙ fold-roll-Not Args Call Not PredRest Primary Unary And Case Expr Pred Prod ProdMore Sum SumMore When args_step call_step not_step rest_step primary_step unary_step and_step case_step expr_step pred_step prod_step prod_more_step sum_step sum_more_step when_step (Not-F.Pred pred)

pub bared-PredRest-Compare : (place : ℕ) (rel : Rel) (sum : Sum) → bare_rest (rest.Compare place rel sum) ≡ rest.Compare 0 rel (bare_sum sum)
bared-PredRest-Compare place rel sum = ap bare_rest (sym (rest.rolls-Compare place rel sum)) ∙ fold-roll-PredRest Args Call Not PredRest Primary Unary And Case Expr Pred Prod ProdMore Sum SumMore When args_step call_step not_step rest_step primary_step unary_step and_step case_step expr_step pred_step prod_step prod_more_step sum_step sum_more_step when_step (PredRest-F.Compare place rel sum)

pub bared-PredRest-Between : (place : ℕ) (negated : Bool) (low : Sum) (high : Sum) → bare_rest (rest.Between place negated low high) ≡ rest.Between 0 negated (bare_sum low) (bare_sum high)
bared-PredRest-Between place negated low high = ap bare_rest (sym (rest.rolls-Between place negated low high)) ∙ fold-roll-PredRest Args Call Not PredRest Primary Unary And Case Expr Pred Prod ProdMore Sum SumMore When args_step call_step not_step rest_step primary_step unary_step and_step case_step expr_step pred_step prod_step prod_more_step sum_step sum_more_step when_step (PredRest-F.Between place negated low high)

pub bared-PredRest-In : (place : ℕ) (negated : Bool) (first : Expr) (more : List Expr) → bare_rest (rest.In place negated first more) ≡ rest.In 0 negated (bare_expr first) (map bare_expr more)
bared-PredRest-In place negated first more = ap bare_rest (sym (rest.rolls-In place negated first more)) ∙ fold-roll-PredRest Args Call Not PredRest Primary Unary And Case Expr Pred Prod ProdMore Sum SumMore When args_step call_step not_step rest_step primary_step unary_step and_step case_step expr_step pred_step prod_step prod_more_step sum_step sum_more_step when_step (PredRest-F.In place negated first more)

pub bared-PredRest-Like : (place : ℕ) (negated : Bool) (sum : Sum) → bare_rest (rest.Like place negated sum) ≡ rest.Like 0 negated (bare_sum sum)
bared-PredRest-Like place negated sum = ap bare_rest (sym (rest.rolls-Like place negated sum)) ∙ fold-roll-PredRest Args Call Not PredRest Primary Unary And Case Expr Pred Prod ProdMore Sum SumMore When args_step call_step not_step rest_step primary_step unary_step and_step case_step expr_step pred_step prod_step prod_more_step sum_step sum_more_step when_step (PredRest-F.Like place negated sum)

pub bared-PredRest-IsNull : (place : ℕ) (negated : Bool) → bare_rest (rest.IsNull place negated) ≡ rest.IsNull 0 negated
bared-PredRest-IsNull place negated = ap bare_rest (sym (rest.rolls-IsNull place negated)) ∙ fold-roll-PredRest Args Call Not PredRest Primary Unary And Case Expr Pred Prod ProdMore Sum SumMore When args_step call_step not_step rest_step primary_step unary_step and_step case_step expr_step pred_step prod_step prod_more_step sum_step sum_more_step when_step (PredRest-F.IsNull place negated)

pub bared-Primary-Number : (place : ℕ) (number : Number) → bare_primary (primary.Number place number) ≡ primary.Number 0 number
bared-Primary-Number place number = ap bare_primary (sym (primary.rolls-Number place number)) ∙ fold-roll-Primary Args Call Not PredRest Primary Unary And Case Expr Pred Prod ProdMore Sum SumMore When args_step call_step not_step rest_step primary_step unary_step and_step case_step expr_step pred_step prod_step prod_more_step sum_step sum_more_step when_step (Primary-F.Number place number)

pub bared-Primary-Text : (place : ℕ) (text : List ℕ) → bare_primary (primary.Text place text) ≡ primary.Text 0 text
bared-Primary-Text place text = ap bare_primary (sym (primary.rolls-Text place text)) ∙ fold-roll-Primary Args Call Not PredRest Primary Unary And Case Expr Pred Prod ProdMore Sum SumMore When args_step call_step not_step rest_step primary_step unary_step and_step case_step expr_step pred_step prod_step prod_more_step sum_step sum_more_step when_step (Primary-F.Text place text)

pub bared-Primary-Null : (place : ℕ) → bare_primary (primary.Null place) ≡ primary.Null 0
bared-Primary-Null place = ap bare_primary (sym (primary.rolls-Null place)) ∙ fold-roll-Primary Args Call Not PredRest Primary Unary And Case Expr Pred Prod ProdMore Sum SumMore When args_step call_step not_step rest_step primary_step unary_step and_step case_step expr_step pred_step prod_step prod_more_step sum_step sum_more_step when_step (Primary-F.Null place)

pub bared-Primary-Column : (path : Path) → bare_primary (primary.Column path) ≡ primary.Column (bare_path path)
bared-Primary-Column path = ap bare_primary (sym (primary.rolls-Column path)) ∙ fold-roll-Primary Args Call Not PredRest Primary Unary And Case Expr Pred Prod ProdMore Sum SumMore When args_step call_step not_step rest_step primary_step unary_step and_step case_step expr_step pred_step prod_step prod_more_step sum_step sum_more_step when_step (Primary-F.Column path)

pub bared-Primary-Call : (inner : Call) → bare_primary (primary.Call inner) ≡ primary.Call (bare_call inner)
bared-Primary-Call inner = ap bare_primary (sym (primary.rolls-Call inner)) ∙ fold-roll-Primary Args Call Not PredRest Primary Unary And Case Expr Pred Prod ProdMore Sum SumMore When args_step call_step not_step rest_step primary_step unary_step and_step case_step expr_step pred_step prod_step prod_more_step sum_step sum_more_step when_step (Primary-F.Call inner)

pub bared-Primary-Case : (inner : Case) → bare_primary (primary.Case inner) ≡ primary.Case (bare_case inner)
bared-Primary-Case inner = ap bare_primary (sym (primary.rolls-Case inner)) ∙ fold-roll-Primary Args Call Not PredRest Primary Unary And Case Expr Pred Prod ProdMore Sum SumMore When args_step call_step not_step rest_step primary_step unary_step and_step case_step expr_step pred_step prod_step prod_more_step sum_step sum_more_step when_step (Primary-F.Case inner)

pub bared-Primary-Nested : (place : ℕ) (inner : Expr) → bare_primary (primary.Nested place inner) ≡ primary.Nested 0 (bare_expr inner)
bared-Primary-Nested place inner = ap bare_primary (sym (primary.rolls-Nested place inner)) ∙ fold-roll-Primary Args Call Not PredRest Primary Unary And Case Expr Pred Prod ProdMore Sum SumMore When args_step call_step not_step rest_step primary_step unary_step and_step case_step expr_step pred_step prod_step prod_more_step sum_step sum_more_step when_step (Primary-F.Nested place inner)

pub bared-Unary-Minus : (place : ℕ) (inner : Unary) → bare_unary (unary.Minus place inner) ≡ unary.Minus 0 (bare_unary inner)
bared-Unary-Minus place inner = ap bare_unary (sym (unary.rolls-Minus place inner)) ∙ fold-roll-Unary Args Call Not PredRest Primary Unary And Case Expr Pred Prod ProdMore Sum SumMore When args_step call_step not_step rest_step primary_step unary_step and_step case_step expr_step pred_step prod_step prod_more_step sum_step sum_more_step when_step (Unary-F.Minus place inner)

pub bared-Unary-Primary : (inner : Primary) → bare_unary (unary.Primary inner) ≡ unary.Primary (bare_primary inner)
bared-Unary-Primary inner = ap bare_unary (sym (unary.rolls-Primary inner)) ∙ fold-roll-Unary Args Call Not PredRest Primary Unary And Case Expr Pred Prod ProdMore Sum SumMore When args_step call_step not_step rest_step primary_step unary_step and_step case_step expr_step pred_step prod_step prod_more_step sum_step sum_more_step when_step (Unary-F.Primary inner)

pub bared-Case : (place : ℕ) (subject : Option Expr) (first : When) (more : List When) (otherwise : Option Expr) → bare_case (roll-Case (record { place = place; subject = subject; first = first; more = more; otherwise = otherwise })) ≡ roll-Case (record { place = 0; subject = option_map bare_expr subject; first = bare_when first; more = map bare_when more; otherwise = option_map bare_expr otherwise })
bared-Case place None first more None = fold-roll-Case Args Call Not PredRest Primary Unary And Case Expr Pred Prod ProdMore Sum SumMore When args_step call_step not_step rest_step primary_step unary_step and_step case_step expr_step pred_step prod_step prod_more_step sum_step sum_more_step when_step (record { place = place; subject = None; first = first; more = more; otherwise = None })
bared-Case place None first more (Some x) = fold-roll-Case Args Call Not PredRest Primary Unary And Case Expr Pred Prod ProdMore Sum SumMore When args_step call_step not_step rest_step primary_step unary_step and_step case_step expr_step pred_step prod_step prod_more_step sum_step sum_more_step when_step (record { place = place; subject = None; first = first; more = more; otherwise = Some x })
bared-Case place (Some x) first more None = fold-roll-Case Args Call Not PredRest Primary Unary And Case Expr Pred Prod ProdMore Sum SumMore When args_step call_step not_step rest_step primary_step unary_step and_step case_step expr_step pred_step prod_step prod_more_step sum_step sum_more_step when_step (record { place = place; subject = Some x; first = first; more = more; otherwise = None })
bared-Case place (Some x) first more (Some y) = fold-roll-Case Args Call Not PredRest Primary Unary And Case Expr Pred Prod ProdMore Sum SumMore When args_step call_step not_step rest_step primary_step unary_step and_step case_step expr_step pred_step prod_step prod_more_step sum_step sum_more_step when_step (record { place = place; subject = Some x; first = first; more = more; otherwise = Some y })

pub bared-Expr : (place : ℕ) (first : And) (more : List And) → bare_expr (roll-Expr (record { place = place; first = first; more = more })) ≡ roll-Expr (record { place = 0; first = bare_and first; more = map bare_and more })
bared-Expr place first more = fold-roll-Expr Args Call Not PredRest Primary Unary And Case Expr Pred Prod ProdMore Sum SumMore When args_step call_step not_step rest_step primary_step unary_step and_step case_step expr_step pred_step prod_step prod_more_step sum_step sum_more_step when_step (record { place = place; first = first; more = more })

pub bared-Pred : (place : ℕ) (sum : Sum) (rest : Option PredRest) → bare_pred (roll-Pred (record { place = place; sum = sum; rest = rest })) ≡ roll-Pred (record { place = 0; sum = bare_sum sum; rest = option_map bare_rest rest })
bared-Pred place sum None = fold-roll-Pred Args Call Not PredRest Primary Unary And Case Expr Pred Prod ProdMore Sum SumMore When args_step call_step not_step rest_step primary_step unary_step and_step case_step expr_step pred_step prod_step prod_more_step sum_step sum_more_step when_step (record { place = place; sum = sum; rest = None })
bared-Pred place sum (Some x) = fold-roll-Pred Args Call Not PredRest Primary Unary And Case Expr Pred Prod ProdMore Sum SumMore When args_step call_step not_step rest_step primary_step unary_step and_step case_step expr_step pred_step prod_step prod_more_step sum_step sum_more_step when_step (record { place = place; sum = sum; rest = Some x })

pub bared-Prod : (place : ℕ) (first : Unary) (more : List ProdMore) → bare_prod (roll-Prod (record { place = place; first = first; more = more })) ≡ roll-Prod (record { place = 0; first = bare_unary first; more = map bare_prod_more more })
bared-Prod place first more = fold-roll-Prod Args Call Not PredRest Primary Unary And Case Expr Pred Prod ProdMore Sum SumMore When args_step call_step not_step rest_step primary_step unary_step and_step case_step expr_step pred_step prod_step prod_more_step sum_step sum_more_step when_step (record { place = place; first = first; more = more })

pub bared-Sum : (place : ℕ) (first : Prod) (more : List SumMore) → bare_sum (roll-Sum (record { place = place; first = first; more = more })) ≡ roll-Sum (record { place = 0; first = bare_prod first; more = map bare_sum_more more })
bared-Sum place first more = fold-roll-Sum Args Call Not PredRest Primary Unary And Case Expr Pred Prod ProdMore Sum SumMore When args_step call_step not_step rest_step primary_step unary_step and_step case_step expr_step pred_step prod_step prod_more_step sum_step sum_more_step when_step (record { place = place; first = first; more = more })

pub bared-SumMore : (place : ℕ) (sign : SumSign) (prod : Prod) → bare_sum_more (roll-SumMore (record { place = place; sign = sign; prod = prod })) ≡ roll-SumMore (record { place = 0; sign = sign; prod = bare_prod prod })
bared-SumMore place sign prod = fold-roll-SumMore Args Call Not PredRest Primary Unary And Case Expr Pred Prod ProdMore Sum SumMore When args_step call_step not_step rest_step primary_step unary_step and_step case_step expr_step pred_step prod_step prod_more_step sum_step sum_more_step when_step (record { place = place; sign = sign; prod = prod })

pub bared-When : (place : ℕ) (when : Expr) (then : Expr) → bare_when (roll-When (record { place = place; when = when; then = then })) ≡ roll-When (record { place = 0; when = bare_expr when; then = bare_expr then })
bared-When place when then = fold-roll-When Args Call Not PredRest Primary Unary And Case Expr Pred Prod ProdMore Sum SumMore When args_step call_step not_step rest_step primary_step unary_step and_step case_step expr_step pred_step prod_step prod_more_step sum_step sum_more_step when_step (record { place = place; when = when; then = then })

pub bared-And : (n : And) → bare_and n ≡ record { place = 0; first = bare_not n.first; more = map bare_not n.more }
bared-And n = fold_out-And Args Call Not PredRest Primary Unary And Case Expr Pred Prod ProdMore Sum SumMore When args_step call_step not_step rest_step primary_step unary_step and_step case_step expr_step pred_step prod_step prod_more_step sum_step sum_more_step when_step n

pub bared-ProdMore : (n : ProdMore) → bare_prod_more n ≡ record { place = 0; sign = n.sign; unary = bare_unary n.unary }
bared-ProdMore n = fold_out-ProdMore Args Call Not PredRest Primary Unary And Case Expr Pred Prod ProdMore Sum SumMore When args_step call_step not_step rest_step primary_step unary_step and_step case_step expr_step pred_step prod_step prod_more_step sum_step sum_more_step when_step n
