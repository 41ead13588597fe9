-- How each line of the grammar of expressions is written.
use Rattle.std.proofs.Common.{◌≡◌, ◌⊎◌, ◌-◌, inl, inr, ℕ, zero, suc, List, [], ◌∷◌, ◌++◌, Bool, refl, ap, sym, ◌∙◌, map}
use Rattle.std.proofs.lemmas.List.{append-nil}
use Rattle.std.specs.Prelude.{Option, Some, None}
use Rattle.std.specs.Option.{option_map}
use Rattle.grammar_rules.specs.Lexemes.{Lexeme}
use Rattle.grammar_rules.specs.Rules.{token, tree, first_part}
use Rattle.query_tokens.specs.declared.symbol.Symbol.TheVariants as symbol
use Rattle.query_tree.specs.declared.name.Path.{Path}
use Rattle.query_tree.specs.declared.name.Number.{Number}
use Rattle.query_tree.specs.declared.name.TypeName.{TypeName}
use Rattle.query_tree.specs.declared.expr.Rel.{Rel}
use Rattle.query_tree.specs.declared.expr.SumSign.{SumSign}
use Rattle.query_tree.specs.declared.expr.ProdSign.{ProdSign}
use Rattle.query_tree.specs.declared.expr.CastWord.{CastWord}
use Rattle.query_tree.specs.declared.expr.Args.{Args}
use Rattle.query_tree.specs.declared.expr.Call.{Call}
use Rattle.query_tree.specs.declared.expr.Not.{Not}
use Rattle.query_tree.specs.declared.expr.PredRest.{PredRest}
use Rattle.query_tree.specs.declared.expr.Primary.{Primary}
use Rattle.query_tree.specs.declared.expr.Unary.{Unary}
use Rattle.query_tree.specs.declared.expr.And.{And}
use Rattle.query_tree.specs.declared.expr.Case.{Case, roll-Case}
use Rattle.query_tree.specs.declared.expr.Expr.{Expr, roll-Expr}
use Rattle.query_tree.specs.declared.expr.Pred.{Pred, roll-Pred}
use Rattle.query_tree.specs.declared.expr.Prod.{Prod, roll-Prod}
use Rattle.query_tree.specs.declared.expr.ProdMore.{ProdMore}
use Rattle.query_tree.specs.declared.expr.Sum.{Sum, roll-Sum}
use Rattle.query_tree.specs.declared.expr.SumMore.{SumMore, roll-SumMore}
use Rattle.query_tree.specs.declared.expr.When.{When, roll-When}
use Rattle.query_tree.specs.declared.expr.Args.TheVariants as args
use Rattle.query_tree.specs.declared.expr.Call.TheVariants as call
use Rattle.query_tree.specs.declared.expr.Not.TheVariants as nots
use Rattle.query_tree.specs.declared.expr.PredRest.TheVariants as rest
use Rattle.query_tree.specs.declared.expr.Primary.TheVariants as primary
use Rattle.query_tree.specs.declared.expr.Unary.TheVariants as unary
use Rattle.query_grammar.specs.Leaves.{number_of, text_content}
use Rattle.query_grammar.specs.Lists.{one, fixed}
use Rattle.query_grammar.specs.ExpressionGrammar as grammar
use Rattle.query_grammar.specs.ExpressionGrammar.{Inside}
use Rattle.query_print.specs.Words.{Word, Fixed, Numbered, Quoted}
use Rattle.query_print.specs.Expressions.{expr_words, and_words, not_words, pred_words, rest_words, sum_words, sum_more_words, prod_words, prod_more_words, unary_words, primary_words, args_words, when_words, path_words, type_words, rel_symbol, sum_symbol, prod_symbol, cast_symbol, flag}
use Rattle.query_print.specs.Scripts.{optional}
use Rattle.query_print.specs.Unplaced.{bare_expr, bare_and, bare_not, bare_pred, bare_rest, bare_sum, bare_sum_more, bare_prod, bare_prod_more, bare_unary, bare_primary, bare_args, bare_when, bare_path, bare_type}
use Rattle.query_round_trip.proofs.Alike.{word_by, is_point, same_symbol}
use Rattle.query_round_trip.proofs.Printings.{Printed, printed_token, printed_line, printed_placed, printed_both, printed_choice, printed_never, printed_perhaps, printed_flagged, printed_or_else, printed_repeated, printed_behind, printed_each_behind, printed_listed, printed_opened, both_words, both_bare, either_words, either_bare, listed_by, word_alone, no_bare, fixed_symbol}
use Rattle.query_round_trip.proofs.NamePrints.{printed_path, printed_type}
use Rattle.query_round_trip.proofs.FixedPrints.{printed_signs, word_As, word_Null, word_Case, word_When, word_Then, word_Else, word_End, word_Distinct, word_Open, word_Close, word_Star, word_Minus, word_Not, word_Between, word_And, word_In, word_Like, word_Is, word_Or}
use Rattle.query_round_trip.proofs.SpeltLemmas.{else_words, spelt-Args-Star, spelt-Args-Listed, spelt-Call-Cast, spelt-Call-Function, spelt-Not-Negation, spelt-Not-Pred, spelt-PredRest-Compare, spelt-PredRest-Between, spelt-PredRest-In, spelt-PredRest-Like, spelt-PredRest-IsNull, spelt-Primary-Number, spelt-Primary-Text, spelt-Primary-Null, spelt-Primary-Column, spelt-Primary-Call, spelt-Primary-Case, spelt-Primary-Nested, spelt-Unary-Minus, spelt-Unary-Primary, spelt-Case, spelt-Expr, spelt-Pred, spelt-Prod, spelt-Sum, spelt-SumMore, spelt-When, spelt-And, spelt-ProdMore}
use Rattle.query_round_trip.proofs.BaredLemmas.{bared-Args-Star, bared-Args-Listed, bared-Call-Cast, bared-Call-Function, bared-Not-Negation, bared-Not-Pred, bared-PredRest-Compare, bared-PredRest-Between, bared-PredRest-In, bared-PredRest-Like, bared-PredRest-IsNull, bared-Primary-Number, bared-Primary-Text, bared-Primary-Null, bared-Primary-Column, bared-Primary-Call, bared-Primary-Case, bared-Primary-Nested, bared-Unary-Minus, bared-Unary-Primary, bared-Case, bared-Expr, bared-Pred, bared-Prod, bared-Sum, bared-SumMore, bared-When, bared-And, bared-ProdMore}

-- ---- numbers, texts, NULL

abbrev pub number_words : Lexeme → List Word
number_words t = Numbered (number_of t.bytes) ∷ []

abbrev pub quoted_words : Lexeme → List Word
quoted_words t = Quoted (text_content t.bytes) ∷ []

number_word : (t : Lexeme) (n : ℕ) → n ≡ 38 → word_by n t.bytes ≡ Numbered (number_of t.bytes)
number_word t n e = ap (λ (x : ℕ). word_by x t.bytes) e

text_word : (t : Lexeme) (n : ℕ) → n ≡ 39 → word_by n t.bytes ≡ Quoted (text_content t.bytes)
text_word t n e = ap (λ (x : ℕ). word_by x t.bytes) e

same_number : (a b : Number) → Numbered a ≡ Numbered b → a ≡ b
same_number a b e = cc

same_text : (a b : List ℕ) → Quoted a ≡ Quoted b → a ≡ b
same_text a b e = cc

number_token : Printed Lexeme Number (fixed symbol.Number) number_words (λ t. number_of t.bytes)
number_token = printed_token Number (one symbol.Number) number_words (λ t. number_of t.bytes) (record {
  closed = refl;
  word = λ t a. ap (λ (x : Word). x ∷ []) (number_word t t.symbol (fixed_symbol symbol.Number t.symbol a));
  no_point = λ t a. ap is_point (number_word t t.symbol (fixed_symbol symbol.Number t.symbol a));
  same = λ t u a l.
      let e = fixed_symbol symbol.Number t.symbol a in
      same_number (number_of u.bytes) (number_of t.bytes)
      (sym (number_word u u.symbol (same_symbol (one symbol.Number) t.symbol u.symbol refl l.symbol_kept a ∙ e)) ∙ l.word_kept ∙ number_word t t.symbol e);
})

text_token : Printed Lexeme (List ℕ) (fixed symbol.Text) quoted_words (λ t. text_content t.bytes)
text_token = printed_token (List ℕ) (one symbol.Text) quoted_words (λ t. text_content t.bytes) (record {
  closed = refl;
  word = λ t a. ap (λ (x : Word). x ∷ []) (text_word t t.symbol (fixed_symbol symbol.Text t.symbol a));
  no_point = λ t a. ap is_point (text_word t t.symbol (fixed_symbol symbol.Text t.symbol a));
  same = λ t u a l.
      let e = fixed_symbol symbol.Text t.symbol a in
      same_text (text_content u.bytes) (text_content t.bytes)
      (sym (text_word u u.symbol (same_symbol (one symbol.Text) t.symbol u.symbol refl l.symbol_kept a ∙ e)) ∙ l.word_kept ∙ text_word t t.symbol e);
})

printed_number : Printed Primary Primary grammar.number primary_words bare_primary
unfolding grammar.number
printed_number = printed_line number_token grammar.number_from (λ v. primary.Number 0 v) (λ t. spelt-Primary-Number t.place (number_of t.bytes)) (λ t. bared-Primary-Number t.place (number_of t.bytes))

printed_text : Printed Primary Primary grammar.text primary_words bare_primary
unfolding grammar.text
printed_text = printed_line text_token grammar.text_from (λ v. primary.Text 0 v) (λ t. spelt-Primary-Text t.place (text_content t.bytes)) (λ t. bared-Primary-Text t.place (text_content t.bytes))

printed_null : Printed Primary Primary grammar.null primary_words bare_primary
unfolding grammar.null
printed_null = printed_line word_Null grammar.null_from (λ v. primary.Null 0) (λ t. spelt-Primary-Null t.place) (λ t. bared-Primary-Null t.place)

-- ---- signs

abbrev pub sign_of : ℕ → Lexeme
sign_of n = record { symbol = n; bytes = []; place = 0 }

cast_token : Printed Lexeme CastWord (token grammar.cast_symbols) (λ t. Fixed (cast_symbol (grammar.cast_word (sign_of t.symbol))) ∷ []) (λ t. grammar.cast_word (sign_of t.symbol))
cast_token = printed_signs CastWord grammar.cast_symbols cast_symbol (λ n. grammar.cast_word (sign_of n)) refl refl (λ bytes. (refl, (refl, tt))) (refl, (refl, tt))

prod_token : Printed Lexeme ProdSign (token grammar.prod_symbols) (λ t. Fixed (prod_symbol (grammar.prod_sign (sign_of t.symbol))) ∷ []) (λ t. grammar.prod_sign (sign_of t.symbol))
prod_token = printed_signs ProdSign grammar.prod_symbols prod_symbol (λ n. grammar.prod_sign (sign_of n)) refl refl (λ bytes. (refl, (refl, (refl, tt)))) (refl, (refl, (refl, tt)))

sum_token : Printed Lexeme SumSign (token grammar.sum_symbols) (λ t. Fixed (sum_symbol (grammar.sum_sign (sign_of t.symbol))) ∷ []) (λ t. grammar.sum_sign (sign_of t.symbol))
sum_token = printed_signs SumSign grammar.sum_symbols sum_symbol (λ n. grammar.sum_sign (sign_of n)) refl refl (λ bytes. (refl, (refl, tt))) (refl, (refl, tt))

rel_token : Printed Lexeme Rel (token grammar.rel_symbols) (λ t. Fixed (rel_symbol (grammar.rel_of (sign_of t.symbol))) ∷ []) (λ t. grammar.rel_of (sign_of t.symbol))
rel_token = printed_signs Rel grammar.rel_symbols rel_symbol (λ n. grammar.rel_of (sign_of n)) refl refl
    (λ bytes. (refl, (refl, (refl, (refl, (refl, (refl, tt))))))) (refl, (refl, (refl, (refl, (refl, (refl, tt))))))

-- ---- parts that hold expressions

pub record PrintedInside (l : Inside) : Type 0 where
  pub expr : Printed Expr Expr l.expr expr_words bare_expr
  pub not : Printed Not Not l.not not_words bare_not
  pub unary : Printed Unary Unary l.unary unary_words bare_unary

args_spelt : (a : ℕ × (Lexeme ⊎ (Bool × (Expr × List Expr))))
    → args_words (grammar.args_from a) ≡ either_words (word_alone symbol.Star) (both_words (flag symbol.Distinct) (listed_by expr_words)) a.1
args_spelt (place, inl star) = spelt-Args-Star place
args_spelt (place, inr parts) = spelt-Args-Listed place parts.0 parts.1.0 parts.1.1

abbrev bare_args_of : Unit {0} ⊎ (Bool × (Expr × List Expr)) → Args
bare_args_of (inl star) = args.Star 0
bare_args_of (inr parts) = args.Listed 0 parts.0 parts.1.0 parts.1.1

args_bared : (a : ℕ × (Lexeme ⊎ (Bool × (Expr × List Expr))))
    → bare_args (grammar.args_from a) ≡ bare_args_of (either_bare no_bare (both_bare (λ d. d) (both_bare bare_expr (map bare_expr))) a.1)
args_bared (place, inl star) = bared-Args-Star place
args_bared (place, inr parts) = bared-Args-Listed place parts.0 parts.1.0 parts.1.1

abbrev call_arg_words : Option Args → List Word
call_arg_words arguments = Fixed symbol.Open ∷ optional args_words arguments ++ (Fixed symbol.Close ∷ [])

call_spelt : (a : Path × Option (Option Args)) → primary_words (grammar.call_from a) ≡ path_words a.0 ++ optional call_arg_words a.1
call_spelt (name, None) = spelt-Primary-Column name ∙ sym (append-nil (path_words name))
call_spelt (name, Some arguments) = spelt-Primary-Call (call.Function name.place name arguments) ∙ spelt-Call-Function name.place name arguments

abbrev bare_call_of : Path × Option (Option Args) → Primary
bare_call_of (name, None) = primary.Column name
bare_call_of (name, Some arguments) = primary.Call (call.Function 0 name arguments)

call_bared : (a : Path × Option (Option Args)) → bare_primary (grammar.call_from a) ≡ bare_call_of (bare_path a.0, option_map (option_map bare_args) a.1)
call_bared (name, None) = bared-Primary-Column name
call_bared (name, Some arguments) = bared-Primary-Call (call.Function name.place name arguments) ∙ ap (λ (c : Call). primary.Call c) (bared-Call-Function name.place name arguments)

abbrev cast_type_words : TypeName → List Word
cast_type_words type = Fixed symbol.As ∷ type_words type ++ (Fixed symbol.Close ∷ [])

printed_cast_type : (left : ℕ) → Printed TypeName TypeName (grammar.cast_type left) cast_type_words bare_type
unfolding grammar.cast_type
printed_cast_type left = printed_line (printed_both word_As (printed_both (printed_type left) word_Close)) grammar.cast_type_from (λ v. v.1.0) (λ a. refl) (λ a. refl)

abbrev between_words : grammar.BetweenParts → List Word
between_words = both_words (word_alone symbol.Between) (both_words sum_words (both_words (word_alone symbol.And) sum_words))

abbrev in_words : grammar.InParts → List Word
in_words = both_words (word_alone symbol.In) (both_words (word_alone symbol.Open) (both_words (listed_by expr_words) (word_alone symbol.Close)))

abbrev like_words : grammar.LikeParts → List Word
like_words = both_words (word_alone symbol.Like) sum_words

abbrev bare_between : grammar.BetweenParts → Unit {0} × (Sum × (Unit {0} × Sum))
bare_between = both_bare no_bare (both_bare bare_sum (both_bare no_bare bare_sum))

abbrev bare_in : grammar.InParts → Unit {0} × (Unit {0} × ((Expr × List Expr) × Unit {0}))
bare_in = both_bare no_bare (both_bare no_bare (both_bare (both_bare bare_expr (map bare_expr)) no_bare))

abbrev bare_like : grammar.LikeParts → Unit {0} × Sum
bare_like = both_bare no_bare bare_sum

negatable_spelt : (place : ℕ) (negated : Bool) (parts : grammar.NegatableParts)
    → rest_words (grammar.negatable_by place negated parts) ≡ flag symbol.Not negated ++ either_words between_words (either_words in_words like_words) parts
negatable_spelt place negated (inl p) = spelt-PredRest-Between place negated p.1.0 p.1.1.1
negatable_spelt place negated (inr (inl p)) = spelt-PredRest-In place negated p.1.1.0.0 p.1.1.0.1
negatable_spelt place negated (inr (inr p)) = spelt-PredRest-Like place negated p.1

abbrev bare_negatable : Bool × ((Unit {0} × (Sum × (Unit {0} × Sum))) ⊎ ((Unit {0} × (Unit {0} × ((Expr × List Expr) × Unit {0}))) ⊎ (Unit {0} × Sum))) → PredRest
bare_negatable (negated, inl p) = rest.Between 0 negated p.1.0 p.1.1.1
bare_negatable (negated, inr (inl p)) = rest.In 0 negated p.1.1.0.0 p.1.1.0.1
bare_negatable (negated, inr (inr p)) = rest.Like 0 negated p.1

negatable_bared : (place : ℕ) (negated : Bool) (parts : grammar.NegatableParts)
    → bare_rest (grammar.negatable_by place negated parts) ≡ bare_negatable (negated, either_bare bare_between (either_bare bare_in bare_like) parts)
negatable_bared place negated (inl p) = bared-PredRest-Between place negated p.1.0 p.1.1.1
negatable_bared place negated (inr (inl p)) = bared-PredRest-In place negated p.1.1.0.0 p.1.1.0.1
negatable_bared place negated (inr (inr p)) = bared-PredRest-Like place negated p.1

module _ (l : Inside) (i : PrintedInside l) where
  printed_arguments : Printed Args Args (grammar.arguments l) args_words bare_args
  unfolding grammar.arguments
  printed_arguments =
      printed_line (printed_placed (printed_choice word_Star (printed_both (printed_flagged symbol.Distinct word_Distinct) (printed_listed i.expr))))
      grammar.args_from bare_args_of args_spelt args_bared

  printed_call_args : Printed (Option Args) (Option Args) (grammar.call_args l) call_arg_words (option_map bare_args)
  unfolding grammar.call_args
  printed_call_args =
      printed_line (printed_opened l.left symbol.Open word_Open (printed_both (printed_perhaps printed_arguments) word_Close)) grammar.call_args_from (λ v. v.1.0) (λ a. refl) (λ a. refl)

  printed_column_or_call : Printed Primary Primary (grammar.column_or_call l) primary_words bare_primary
  unfolding grammar.column_or_call
  printed_column_or_call = printed_line (printed_both printed_path (printed_perhaps printed_call_args)) grammar.call_from bare_call_of call_spelt call_bared

  printed_cast : Printed Primary Primary (grammar.cast l) primary_words bare_primary
  unfolding grammar.cast
  printed_cast =
      printed_line (printed_both cast_token (printed_opened l.left symbol.Open word_Open (printed_both i.expr (printed_cast_type (l.left - 1)))))
      grammar.cast_from (λ v. primary.Call (call.Cast 0 v.0 v.1.1.0 v.1.1.1))
      (λ a. spelt-Primary-Call (call.Cast a.0.place (grammar.cast_word a.0) a.1.1.0 a.1.1.1) ∙ spelt-Call-Cast a.0.place (grammar.cast_word a.0) a.1.1.0 a.1.1.1)
      (λ a. bared-Primary-Call (call.Cast a.0.place (grammar.cast_word a.0) a.1.1.0 a.1.1.1) ∙ ap (λ (c : Call). primary.Call c) (bared-Call-Cast a.0.place (grammar.cast_word a.0) a.1.1.0 a.1.1.1))

  printed_when : Printed When When (grammar.when l) when_words bare_when
  unfolding grammar.when
  printed_when =
      printed_line (printed_both word_When (printed_both i.expr (printed_both word_Then i.expr)))
      grammar.when_from (λ v. roll-When (record { place = 0; when = v.1.0; then = v.1.1.1 }))
      (λ a. spelt-When a.0.place a.1.0 a.1.1.1) (λ a. bared-When a.0.place a.1.0 a.1.1.1)

  printed_else : Printed Expr Expr (grammar.else_part l) else_words bare_expr
  unfolding grammar.else_part
  printed_else = printed_behind symbol.Else word_Else i.expr

  abbrev case_end_words : Option Expr → List Word
  case_end_words otherwise = optional else_words otherwise ++ (Fixed symbol.End ∷ [])

  printed_case_end : Printed (Option Expr) (Option Expr) (grammar.case_end l) case_end_words (option_map bare_expr)
  unfolding grammar.case_end
  printed_case_end = printed_line (printed_both (printed_perhaps printed_else) word_End) first_part (λ v. v.0) (λ a. refl) (λ a. refl)

  printed_case : Printed Primary Primary (grammar.case l) primary_words bare_primary
  unfolding grammar.case
  printed_case =
      printed_line (printed_opened l.left symbol.Case word_Case (printed_both (printed_perhaps i.expr) (printed_both printed_when (printed_both (printed_repeated printed_when) printed_case_end))))
      grammar.case_from
      (λ v. primary.Case (roll-Case (record { place = 0; subject = v.1.0; first = v.1.1.0; more = v.1.1.1.0; otherwise = v.1.1.1.1 })))
      (λ a. spelt-Primary-Case (roll-Case (record { place = a.0.place; subject = a.1.0; first = a.1.1.0; more = a.1.1.1.0; otherwise = a.1.1.1.1 }))
      ∙ spelt-Case a.0.place a.1.0 a.1.1.0 a.1.1.1.0 a.1.1.1.1)
      (λ a. bared-Primary-Case (roll-Case (record { place = a.0.place; subject = a.1.0; first = a.1.1.0; more = a.1.1.1.0; otherwise = a.1.1.1.1 }))
      ∙ ap (λ (c : Case). primary.Case c) (bared-Case a.0.place a.1.0 a.1.1.0 a.1.1.1.0 a.1.1.1.1))

  printed_nested : Printed Primary Primary (grammar.nested l) primary_words bare_primary
  unfolding grammar.nested
  printed_nested =
      printed_line (printed_opened l.left symbol.Open word_Open (printed_both i.expr word_Close)) grammar.nested_from (λ v. primary.Nested 0 v.1.0)
      (λ a. spelt-Primary-Nested a.0.place a.1.0) (λ a. bared-Primary-Nested a.0.place a.1.0)

  printed_primary : Printed Primary Primary (grammar.primary_rule l) primary_words bare_primary
  unfolding grammar.primary_rule
  printed_primary =
      printed_or_else printed_number (printed_or_else printed_text (printed_or_else printed_null (printed_or_else printed_column_or_call
      (printed_or_else printed_cast (printed_or_else printed_case printed_nested)))))

  printed_minus : Printed Unary Unary (tree grammar.minus_from (grammar.opens l symbol.Minus l.unary)) unary_words bare_unary
  printed_minus =
      printed_line (printed_opened l.left symbol.Minus word_Minus i.unary) grammar.minus_from (λ v. unary.Minus 0 v.1) (λ a. spelt-Unary-Minus a.0.place a.1) (λ a. bared-Unary-Minus a.0.place a.1)

  pub printed_unary : Printed Unary Unary (grammar.unary_rule l) unary_words bare_unary
  unfolding grammar.unary_rule
  printed_unary = printed_or_else printed_minus (printed_line printed_primary unary.Primary (λ v. unary.Primary v) (λ a. spelt-Unary-Primary a) (λ a. bared-Unary-Primary a))

  printed_prod_more : Printed ProdMore ProdMore (grammar.prod_more l) prod_more_words bare_prod_more
  unfolding grammar.prod_more
  printed_prod_more =
      printed_line (printed_both prod_token printed_unary) grammar.prod_more_from (λ v. record { place = 0; sign = v.0; unary = v.1 })
      (λ a. spelt-ProdMore (grammar.prod_more_from a)) (λ a. bared-ProdMore (grammar.prod_more_from a))

  printed_prod : Printed Prod Prod (grammar.prod l) prod_words bare_prod
  unfolding grammar.prod
  printed_prod =
      printed_line (printed_placed (printed_both printed_unary (printed_repeated printed_prod_more))) grammar.prod_from (λ v. roll-Prod (record { place = 0; first = v.0; more = v.1 }))
      (λ a. spelt-Prod a.0 a.1.0 a.1.1) (λ a. bared-Prod a.0 a.1.0 a.1.1)

  printed_sum_more : Printed SumMore SumMore (grammar.sum_more l) sum_more_words bare_sum_more
  unfolding grammar.sum_more
  printed_sum_more =
      printed_line (printed_both sum_token printed_prod) grammar.sum_more_from (λ v. roll-SumMore (record { place = 0; sign = v.0; prod = v.1 }))
      (λ a. spelt-SumMore a.0.place (grammar.sum_sign a.0) a.1) (λ a. bared-SumMore a.0.place (grammar.sum_sign a.0) a.1)

  printed_sum : Printed Sum Sum (grammar.sum l) sum_words bare_sum
  unfolding grammar.sum
  printed_sum =
      printed_line (printed_placed (printed_both printed_prod (printed_repeated printed_sum_more))) grammar.sum_from (λ v. roll-Sum (record { place = 0; first = v.0; more = v.1 }))
      (λ a. spelt-Sum a.0 a.1.0 a.1.1) (λ a. bared-Sum a.0 a.1.0 a.1.1)

  printed_compare : Printed PredRest PredRest (grammar.compare l) rest_words bare_rest
  unfolding grammar.compare
  printed_compare =
      printed_line (printed_both rel_token printed_sum) grammar.compare_from (λ v. rest.Compare 0 v.0 v.1)
      (λ a. spelt-PredRest-Compare a.0.place (grammar.rel_of a.0) a.1) (λ a. bared-PredRest-Compare a.0.place (grammar.rel_of a.0) a.1)

  printed_is_null : Printed PredRest PredRest grammar.is_null rest_words bare_rest
  unfolding grammar.is_null
  printed_is_null =
      printed_line (printed_both word_Is (printed_both (printed_flagged symbol.Not word_Not) word_Null)) grammar.is_null_from (λ v. rest.IsNull 0 v.1.0)
      (λ a. spelt-PredRest-IsNull a.0.place a.1.0) (λ a. bared-PredRest-IsNull a.0.place a.1.0)

  printed_negatable : Printed PredRest PredRest (grammar.negatable l) rest_words bare_rest
  unfolding grammar.negatable grammar.negatable_parts grammar.between grammar.in_list grammar.like
  printed_negatable =
      printed_line
      (printed_placed (printed_both (printed_flagged symbol.Not word_Not)
      (printed_choice (printed_both word_Between (printed_both printed_sum (printed_both word_And printed_sum)))
      (printed_choice (printed_both word_In (printed_opened l.left symbol.Open word_Open (printed_both (printed_listed i.expr) word_Close))) (printed_both word_Like printed_sum)))))
      grammar.negatable_from bare_negatable (λ a. negatable_spelt a.0 a.1.0 a.1.1) (λ a. negatable_bared a.0 a.1.0 a.1.1)

  printed_rest : Printed PredRest PredRest (grammar.pred_rest l) rest_words bare_rest
  unfolding grammar.pred_rest
  printed_rest = printed_or_else printed_compare (printed_or_else printed_negatable printed_is_null)

  printed_pred : Printed Pred Pred (grammar.pred l) pred_words bare_pred
  unfolding grammar.pred
  printed_pred =
      printed_line (printed_placed (printed_both printed_sum (printed_perhaps printed_rest))) grammar.pred_from (λ v. roll-Pred (record { place = 0; sum = v.0; rest = v.1 }))
      (λ a. spelt-Pred a.0 a.1.0 a.1.1) (λ a. bared-Pred a.0 a.1.0 a.1.1)

  printed_negation : Printed Not Not (tree grammar.negation_from (grammar.opens l symbol.Not l.not)) not_words bare_not
  printed_negation =
      printed_line (printed_opened l.left symbol.Not word_Not i.not) grammar.negation_from (λ v. nots.Negation 0 v.1) (λ a. spelt-Not-Negation a.0.place a.1) (λ a. bared-Not-Negation a.0.place a.1)

  pub printed_not : Printed Not Not (grammar.not_rule l) not_words bare_not
  unfolding grammar.not_rule
  printed_not = printed_or_else printed_negation (printed_line printed_pred nots.Pred (λ v. nots.Pred v) (λ a. spelt-Not-Pred a) (λ a. bared-Not-Pred a))

  printed_and : Printed And And (grammar.conjunction l) and_words bare_and
  unfolding grammar.conjunction grammar.and_more
  printed_and =
      printed_line (printed_placed (printed_both printed_not (printed_each_behind symbol.And word_And printed_not))) grammar.and_from (λ v. record { place = 0; first = v.0; more = v.1 })
      (λ a. spelt-And (grammar.and_from a)) (λ a. bared-And (grammar.and_from a))

  pub printed_disjunction : Printed Expr Expr (grammar.disjunction l) expr_words bare_expr
  unfolding grammar.disjunction grammar.or_more
  printed_disjunction =
      printed_line (printed_placed (printed_both printed_and (printed_each_behind symbol.Or word_Or printed_and))) grammar.expr_from (λ v. roll-Expr (record { place = 0; first = v.0; more = v.1 }))
      (λ a. spelt-Expr a.0 a.1.0 a.1.1) (λ a. bared-Expr a.0 a.1.0 a.1.1)

-- ---- by how many openings are left

printed_inner : (left : ℕ) → PrintedInside (grammar.inner_rules left)
unfolding grammar.inner_rules
printed_inner zero = record { expr = printed_never; not = printed_never; unary = printed_never }
printed_inner (suc left) =
    let l = grammar.with_left left (grammar.inner_rules left) in
    let n = printed_inner left in
    let i : PrintedInside l = record { expr = n.expr; not = n.not; unary = n.unary } in
    record { expr = printed_disjunction l i; not = printed_not l i; unary = printed_unary l i }

pub printed_expr : (left : ℕ) → Printed Expr Expr (grammar.expr left) expr_words bare_expr
printed_expr left =
    let n = printed_inner left in
    printed_disjunction (grammar.inside left) (record { expr = n.expr; not = n.not; unary = n.unary })
