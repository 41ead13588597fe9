-- The words of a node are written part by part.
use Rattle.std.proofs.Common.{◌≡◌, ◌≤◌, ℕ, zero, suc, length, drop, arith, List, [], ◌∷◌, ◌++◌, Bool, refl, ap, sym, ◌∙◌, map}
use Rattle.std.specs.Prelude.{Option, Some, None}
use Rattle.std.specs.Option.{option_map}
use Rattle.query_tokens.specs.declared.symbol.Symbol.{Symbol}
use Rattle.query_tokens.specs.declared.symbol.Symbol.TheVariants as symbol
use Rattle.query_tree.specs.declared.name.Path.{Path}
use Rattle.query_tree.specs.declared.name.TypeName.{TypeName}
use Rattle.query_tree.specs.declared.expr.CastWord.{CastWord}
use Rattle.query_tree.specs.declared.expr.Args.{Args, fold-roll-Args}
use Rattle.query_tree.specs.declared.expr.Call.{fold-roll-Call}
use Rattle.query_tree.specs.declared.expr.PredRest.{PredRest, fold-roll-PredRest}
use Rattle.query_tree.specs.declared.expr.And.{And}
use Rattle.query_tree.specs.declared.expr.Case.{Case, roll-Case, out-Case, fold-roll-Case}
use Rattle.query_tree.specs.declared.expr.Expr.{Expr, out-Expr}
use Rattle.query_tree.specs.declared.expr.Pred.{Pred, roll-Pred, out-Pred, fold-roll-Pred}
use Rattle.query_tree.specs.declared.expr.Prod.{Prod, out-Prod}
use Rattle.query_tree.specs.declared.expr.Sum.{Sum, out-Sum}
use Rattle.query_tree.specs.declared.expr.When.{When, out-When}
use Rattle.query_tree.specs.declared.expr.Args.TheVariants as args
use Rattle.query_tree.specs.declared.expr.Call.TheVariants as call
use Rattle.query_tree.specs.declared.expr.PredRest.TheVariants as rest
use Rattle.query_tree.specs.declared.expr.Args.TheFolds.{fold_out-Expr, fold_out-And, fold_out-Sum, fold_out-Prod, fold_out-Pred, fold_out-Case, fold_out-When}
use Rattle.query_tree.specs.declared.expr.Args.TheOpen.{Args-F, Call-F, PredRest-F}
use Rattle.query_print.specs.Words.{Fixed, Written, with_word, with_words}
use Rattle.query_print.specs.Expressions.{Words, fixed, flag, each_behind, all_words, if_there, else_part, with_commas, path_words, type_words, cast_symbol, args_step, call_step, not_step, rest_step, primary_step, unary_step, and_step, case_step, expr_step, pred_step, prod_step, prod_more_step, sum_step, sum_more_step, when_step, args_words, call_words, rest_words, and_words, not_words, case_words, expr_words, pred_words, prod_words, prod_more_words, sum_words, sum_more_words, unary_words, when_words}
use Rattle.query_print.specs.Writing.{all_written, each_written}
use Rattle.query_print.proofs.WrittenLemmas.{with_words_append, all_words_written, each_behind_written}

each_after : (s : Symbol) (w : Written) (first : Words) (parts : List Words) → with_words w (first ++ each_behind s parts) ≡ each_written s parts (with_words w first)
each_after s w first parts = with_words_append w first (each_behind s parts) ∙ each_behind_written s parts (with_words w first)

all_after : (w : Written) (first : Words) (parts : List Words) → with_words w (first ++ all_words parts) ≡ all_written parts (with_words w first)
all_after w first parts = with_words_append w first (all_words parts) ∙ all_words_written parts (with_words w first)

pub written_expr : (w : Written) (e : Expr) → with_words w (expr_words e) ≡ each_written symbol.Or (map and_words (out-Expr e).more) (with_words w (and_words (out-Expr e).first))
written_expr w e = ap (with_words w) (fold_out-Expr Words Words Words Words Words Words Words Words Words Words Words Words Words Words Words args_step call_step not_step rest_step primary_step unary_step and_step case_step expr_step pred_step prod_step prod_more_step sum_step sum_more_step when_step e) ∙ each_after symbol.Or w (and_words (out-Expr e).first) (map and_words (out-Expr e).more)

pub written_and : (w : Written) (e : And) → with_words w (and_words e) ≡ each_written symbol.And (map not_words e.more) (with_words w (not_words e.first))
written_and w e = ap (with_words w) (fold_out-And Words Words Words Words Words Words Words Words Words Words Words Words Words Words Words args_step call_step not_step rest_step primary_step unary_step and_step case_step expr_step pred_step prod_step prod_more_step sum_step sum_more_step when_step e) ∙ each_after symbol.And w (not_words e.first) (map not_words e.more)

pub written_sum : (w : Written) (e : Sum) → with_words w (sum_words e) ≡ all_written (map sum_more_words (out-Sum e).more) (with_words w (prod_words (out-Sum e).first))
written_sum w e = ap (with_words w) (fold_out-Sum Words Words Words Words Words Words Words Words Words Words Words Words Words Words Words args_step call_step not_step rest_step primary_step unary_step and_step case_step expr_step pred_step prod_step prod_more_step sum_step sum_more_step when_step e) ∙ all_after w (prod_words (out-Sum e).first) (map sum_more_words (out-Sum e).more)

pub written_prod : (w : Written) (e : Prod) → with_words w (prod_words e) ≡ all_written (map prod_more_words (out-Prod e).more) (with_words w (unary_words (out-Prod e).first))
written_prod w e = ap (with_words w) (fold_out-Prod Words Words Words Words Words Words Words Words Words Words Words Words Words Words Words args_step call_step not_step rest_step primary_step unary_step and_step case_step expr_step pred_step prod_step prod_more_step sum_step sum_more_step when_step e) ∙ all_after w (unary_words (out-Prod e).first) (map prod_more_words (out-Prod e).more)

-- the words of a predicate by its parts
opened_pred : (place : ℕ) (sum : Sum) (rest : Option PredRest) → pred_words (roll-Pred (record { place = place; sum = sum; rest = rest })) ≡ sum_words sum ++ if_there (option_map rest_words rest)
opened_pred place sum None = fold-roll-Pred Words Words Words Words Words Words Words Words Words Words Words Words Words Words Words args_step call_step not_step rest_step primary_step unary_step and_step case_step expr_step pred_step prod_step prod_more_step sum_step sum_more_step when_step (record { place = place; sum = sum; rest = None })
opened_pred place sum (Some rest) = fold-roll-Pred Words Words Words Words Words Words Words Words Words Words Words Words Words Words Words args_step call_step not_step rest_step primary_step unary_step and_step case_step expr_step pred_step prod_step prod_more_step sum_step sum_more_step when_step (record { place = place; sum = sum; rest = Some rest })

pub written_pred : (w : Written) (e : Pred) → with_words w (pred_words e) ≡ with_words (with_words w (sum_words (out-Pred e).sum)) (if_there (option_map rest_words (out-Pred e).rest))
written_pred w e =
    ap (with_words w) (fold_out-Pred Words Words Words Words Words Words Words Words Words Words Words Words Words Words Words args_step call_step not_step rest_step primary_step unary_step and_step case_step expr_step pred_step prod_step prod_more_step sum_step sum_more_step when_step e ∙ sym (fold-roll-Pred Words Words Words Words Words Words Words Words Words Words Words Words Words Words Words args_step call_step not_step rest_step primary_step unary_step and_step case_step expr_step pred_step prod_step prod_more_step sum_step sum_more_step when_step (out-Pred e)) ∙ opened_pred (out-Pred e).place (out-Pred e).sum (out-Pred e).rest)
    ∙ with_words_append w (sum_words (out-Pred e).sum) (if_there (option_map rest_words (out-Pred e).rest))

pub written_when : (w : Written) (e : When)
    → with_words w (when_words e) ≡ with_words (with_word (with_words (with_word w (Fixed symbol.When)) (expr_words (out-When e).when)) (Fixed symbol.Then)) (expr_words (out-When e).then)
written_when w e = ap (with_words w) (fold_out-When Words Words Words Words Words Words Words Words Words Words Words Words Words Words Words args_step call_step not_step rest_step primary_step unary_step and_step case_step expr_step pred_step prod_step prod_more_step sum_step sum_more_step when_step e) ∙ with_words_append (with_word w (Fixed symbol.When)) (expr_words (out-When e).when) (Fixed symbol.Then ∷ expr_words (out-When e).then)

-- the words of a CASE by its parts
opened_case : (place : ℕ) (subject : Option Expr) (first : When) (others : List When) (otherwise : Option Expr)
    → case_words (roll-Case (record { place = place; subject = subject; first = first; more = others; otherwise = otherwise }))
    ≡ Fixed symbol.Case ∷ if_there (option_map expr_words subject)
    ++ (when_words first ++ (all_words (map when_words others) ++ (else_part (option_map expr_words otherwise) ++ fixed symbol.End)))
opened_case place None first others None = fold-roll-Case Words Words Words Words Words Words Words Words Words Words Words Words Words Words Words args_step call_step not_step rest_step primary_step unary_step and_step case_step expr_step pred_step prod_step prod_more_step sum_step sum_more_step when_step (record { place = place; subject = None; first = first; more = others; otherwise = None })
opened_case place None first others (Some y) = fold-roll-Case Words Words Words Words Words Words Words Words Words Words Words Words Words Words Words args_step call_step not_step rest_step primary_step unary_step and_step case_step expr_step pred_step prod_step prod_more_step sum_step sum_more_step when_step (record { place = place; subject = None; first = first; more = others; otherwise = Some y })
opened_case place (Some x) first others None = fold-roll-Case Words Words Words Words Words Words Words Words Words Words Words Words Words Words Words args_step call_step not_step rest_step primary_step unary_step and_step case_step expr_step pred_step prod_step prod_more_step sum_step sum_more_step when_step (record { place = place; subject = Some x; first = first; more = others; otherwise = None })
opened_case place (Some x) first others (Some y) = fold-roll-Case Words Words Words Words Words Words Words Words Words Words Words Words Words Words Words args_step call_step not_step rest_step primary_step unary_step and_step case_step expr_step pred_step prod_step prod_more_step sum_step sum_more_step when_step (record { place = place; subject = Some x; first = first; more = others; otherwise = Some y })

pub written_case : (w : Written) (e : Case)
    → with_words w (case_words e)
    ≡ with_word (with_words (all_written (map when_words (out-Case e).more)
    (with_words (with_words (with_word w (Fixed symbol.Case)) (if_there (option_map expr_words (out-Case e).subject))) (when_words (out-Case e).first)))
    (else_part (option_map expr_words (out-Case e).otherwise))) (Fixed symbol.End)
written_case w e =
    let subject : Words = if_there (option_map expr_words (out-Case e).subject) in
    let first : Words = when_words (out-Case e).first in
    let others : List Words = map when_words (out-Case e).more in
    let otherwise : Words = else_part (option_map expr_words (out-Case e).otherwise) in
    let w1 : Written = with_words (with_word w (Fixed symbol.Case)) (if_there (option_map expr_words (out-Case e).subject)) in
    let w2 : Written = with_words w1 (when_words (out-Case e).first) in
    ap (with_words w) (fold_out-Case Words Words Words Words Words Words Words Words Words Words Words Words Words Words Words args_step call_step not_step rest_step primary_step unary_step and_step case_step expr_step pred_step prod_step prod_more_step sum_step sum_more_step when_step e ∙ sym (fold-roll-Case Words Words Words Words Words Words Words Words Words Words Words Words Words Words Words args_step call_step not_step rest_step primary_step unary_step and_step case_step expr_step pred_step prod_step prod_more_step sum_step sum_more_step when_step (out-Case e))
    ∙ opened_case (out-Case e).place (out-Case e).subject (out-Case e).first (out-Case e).more (out-Case e).otherwise)
    ∙ with_words_append (with_word w (Fixed symbol.Case)) subject (first ++ (all_words others ++ (otherwise ++ fixed symbol.End)))
    ∙ with_words_append w1 first (all_words others ++ (otherwise ++ fixed symbol.End))
    ∙ with_words_append w2 (all_words others) (otherwise ++ fixed symbol.End)
    ∙ ap (λ (s : Written). with_words s (otherwise ++ fixed symbol.End)) (all_words_written others w2)
    ∙ with_words_append (all_written others w2) otherwise (fixed symbol.End)

pub written_listed : (w : Written) (place : ℕ) (distinct : Bool) (first : Expr) (more : List Expr)
    → with_words w (args_words (args.Listed place distinct first more)) ≡ each_written symbol.Comma (map expr_words more) (with_words (with_words w (flag symbol.Distinct distinct)) (expr_words first))
written_listed w place distinct first more =
    ap (with_words w) (ap args_words (sym (args.rolls-Listed place distinct first more)) ∙ fold-roll-Args Words Words Words Words Words Words Words Words Words Words Words Words Words Words Words args_step call_step not_step rest_step primary_step unary_step and_step case_step expr_step pred_step prod_step prod_more_step sum_step sum_more_step when_step (Args-F.Listed place distinct first more))
    ∙ with_words_append w (flag symbol.Distinct distinct) (with_commas (expr_words first) (map expr_words more))
    ∙ each_after symbol.Comma (with_words w (flag symbol.Distinct distinct)) (expr_words first) (map expr_words more)

pub written_cast : (w : Written) (place : ℕ) (word : CastWord) (inner : Expr) (type : TypeName)
    → with_words w (call_words (call.Cast place word inner type))
    ≡ with_word (with_words (with_word (with_words (with_word (with_word w (Fixed (cast_symbol word))) (Fixed symbol.Open)) (expr_words inner)) (Fixed symbol.As)) (type_words type)) (Fixed symbol.Close)
written_cast w place word inner type =
    let w1 : Written = with_word (with_word w (Fixed (cast_symbol word))) (Fixed symbol.Open) in
    ap (with_words w) (ap call_words (sym (call.rolls-Cast place word inner type)) ∙ fold-roll-Call Words Words Words Words Words Words Words Words Words Words Words Words Words Words Words args_step call_step not_step rest_step primary_step unary_step and_step case_step expr_step pred_step prod_step prod_more_step sum_step sum_more_step when_step (Call-F.Cast place word inner type))
    ∙ with_words_append w1 (expr_words inner) (Fixed symbol.As ∷ type_words type ++ fixed symbol.Close)
    ∙ with_words_append (with_word (with_words w1 (expr_words inner)) (Fixed symbol.As)) (type_words type) (fixed symbol.Close)

pub written_function : (w : Written) (place : ℕ) (path : Path) (arguments : Args)
    → with_words w (call_words (call.Function place path (Some arguments)))
    ≡ with_word (with_words (with_word (with_words w (path_words path)) (Fixed symbol.Open)) (args_words arguments)) (Fixed symbol.Close)
written_function w place path arguments =
    let w1 : Written = with_words w (path_words path) in
    ap (with_words w) (ap call_words (sym (call.rolls-Function place path (Some arguments))) ∙ fold-roll-Call Words Words Words Words Words Words Words Words Words Words Words Words Words Words Words args_step call_step not_step rest_step primary_step unary_step and_step case_step expr_step pred_step prod_step prod_more_step sum_step sum_more_step when_step (Call-F.Function place path (Some arguments)))
    ∙ with_words_append w (path_words path) (Fixed symbol.Open ∷ args_words arguments ++ fixed symbol.Close)
    ∙ with_words_append (with_word w1 (Fixed symbol.Open)) (args_words arguments) (fixed symbol.Close)

pub written_no_arguments : (w : Written) (place : ℕ) (path : Path)
    → with_words w (call_words (call.Function place path None)) ≡ with_word (with_word (with_words w (path_words path)) (Fixed symbol.Open)) (Fixed symbol.Close)
written_no_arguments w place path =
    ap (with_words w) (ap call_words (sym (call.rolls-Function place path None)) ∙ fold-roll-Call Words Words Words Words Words Words Words Words Words Words Words Words Words Words Words args_step call_step not_step rest_step primary_step unary_step and_step case_step expr_step pred_step prod_step prod_more_step sum_step sum_more_step when_step (Call-F.Function place path None))
    ∙ with_words_append w (path_words path) (Fixed symbol.Open ∷ fixed symbol.Close)

pub written_between : (w : Written) (place : ℕ) (negated : Bool) (low high : Sum)
    → with_words w (rest_words (rest.Between place negated low high))
    ≡ with_words (with_word (with_words (with_word (with_words w (flag symbol.Not negated)) (Fixed symbol.Between)) (sum_words low)) (Fixed symbol.And)) (sum_words high)
written_between w place negated low high =
    let w1 : Written = with_word (with_words w (flag symbol.Not negated)) (Fixed symbol.Between) in
    ap (with_words w) (ap rest_words (sym (rest.rolls-Between place negated low high)) ∙ fold-roll-PredRest Words Words Words Words Words Words Words Words Words Words Words Words Words Words Words args_step call_step not_step rest_step primary_step unary_step and_step case_step expr_step pred_step prod_step prod_more_step sum_step sum_more_step when_step (PredRest-F.Between place negated low high))
    ∙ with_words_append w (flag symbol.Not negated) (Fixed symbol.Between ∷ sum_words low ++ (Fixed symbol.And ∷ sum_words high))
    ∙ with_words_append w1 (sum_words low) (Fixed symbol.And ∷ sum_words high)

pub written_in : (w : Written) (place : ℕ) (negated : Bool) (first : Expr) (more : List Expr)
    → with_words w (rest_words (rest.In place negated first more))
    ≡ with_word (each_written symbol.Comma (map expr_words more)
    (with_words (with_word (with_word (with_words w (flag symbol.Not negated)) (Fixed symbol.In)) (Fixed symbol.Open)) (expr_words first))) (Fixed symbol.Close)
written_in w place negated first more =
    let w1 : Written = with_word (with_word (with_words w (flag symbol.Not negated)) (Fixed symbol.In)) (Fixed symbol.Open) in
    ap (with_words w) (ap rest_words (sym (rest.rolls-In place negated first more)) ∙ fold-roll-PredRest Words Words Words Words Words Words Words Words Words Words Words Words Words Words Words args_step call_step not_step rest_step primary_step unary_step and_step case_step expr_step pred_step prod_step prod_more_step sum_step sum_more_step when_step (PredRest-F.In place negated first more))
    ∙ with_words_append w (flag symbol.Not negated) (Fixed symbol.In ∷ Fixed symbol.Open ∷ with_commas (expr_words first) (map expr_words more) ++ fixed symbol.Close)
    ∙ with_words_append w1 (with_commas (expr_words first) (map expr_words more)) (fixed symbol.Close)
    ∙ ap (λ (s : Written). with_word s (Fixed symbol.Close)) (each_after symbol.Comma w1 (expr_words first) (map expr_words more))

pub written_like : (w : Written) (place : ℕ) (negated : Bool) (sum : Sum)
    → with_words w (rest_words (rest.Like place negated sum)) ≡ with_words (with_word (with_words w (flag symbol.Not negated)) (Fixed symbol.Like)) (sum_words sum)
written_like w place negated sum =
    ap (with_words w) (ap rest_words (sym (rest.rolls-Like place negated sum)) ∙ fold-roll-PredRest Words Words Words Words Words Words Words Words Words Words Words Words Words Words Words args_step call_step not_step rest_step primary_step unary_step and_step case_step expr_step pred_step prod_step prod_more_step sum_step sum_more_step when_step (PredRest-F.Like place negated sum))
    ∙ with_words_append w (flag symbol.Not negated) (Fixed symbol.Like ∷ sum_words sum)

-- ---- lists that are written whole

drop_none : {A : Type 0} (xs : List A) (i : ℕ) → length xs ≤ i → drop i xs ≡ []
drop_none [] zero l = refl
drop_none [] (suc i) l = refl
drop_none (x ∷ xs) zero l = absurd (omega arith)
drop_none (x ∷ xs) (suc i) l = drop_none xs i (omega arith)

pub all_done : {A : Type 0} (words : A → Words) (parts : List A) (i : ℕ) (out first : Written) → length parts ≤ i → all_written (map words (drop i parts)) out ≡ all_written (map words parts) first
    → out ≡ all_written (map words parts) first
unfolding all_written
all_done {A} words parts i out first l h = sym (ap (λ (xs : List A). all_written (map words xs) out) (drop_none parts i l)) ∙ h

pub each_done : {A : Type 0} (s : Symbol) (words : A → Words) (parts : List A) (i : ℕ) (out first : Written) → length parts ≤ i → each_written s (map words (drop i parts)) out ≡ each_written s (map words parts) first
    → out ≡ each_written s (map words parts) first
unfolding each_written
each_done {A} s words parts i out first l h = sym (ap (λ (xs : List A). each_written s (map words xs) out) (drop_none parts i l)) ∙ h
