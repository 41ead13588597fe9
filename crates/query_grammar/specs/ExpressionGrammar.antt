-- The grammar of expressions. Each line is a `Grammar` over what stands inside an opening: a parenthesis, CASE, NOT or a
-- unary minus, of which only so many may be open at once.
use Rattle.std.proofs.Common.{inl, inr}
use Rattle.std.specs.Prelude.{◌⊎◌, ◌==◌, ◌-◌, ℕ, zero, suc, List, [], ◌∷◌, Bool, if◌then◌else◌, Option, Some, None}
use Rattle.grammar_rules.specs.Lexemes.{Lexeme}
use Rattle.grammar_rules.specs.Rules.{Grammar, token, never, both, tree, first_part, placed, choice, or_else, perhaps, repeated, opened}
use Rattle.query_tokens.specs.declared.symbol.Symbol.{Symbol}
use Rattle.query_tokens.specs.declared.symbol.Symbol.TheVariants as symbol
use Rattle.query_tokens.specs.Symbols.{symbol_number}
use Rattle.query_tree.specs.declared.name.Path.{Path}
use Rattle.query_tree.specs.declared.name.TypeName.{TypeName}
use Rattle.query_tree.specs.declared.expr.Rel.{Rel}
use Rattle.query_tree.specs.declared.expr.Rel.TheVariants.{Eq, Ne, Lt, Le, Gt, Ge}
use Rattle.query_tree.specs.declared.expr.SumSign.{SumSign}
use Rattle.query_tree.specs.declared.expr.SumSign.TheVariants.{Plus, Minus}
use Rattle.query_tree.specs.declared.expr.ProdSign.{ProdSign}
use Rattle.query_tree.specs.declared.expr.ProdSign.TheVariants.{Star, Slash, Percent}
use Rattle.query_tree.specs.declared.expr.CastWord.{CastWord}
use Rattle.query_tree.specs.declared.expr.CastWord.TheVariants.{Cast, TryCast}
use Rattle.query_tree.specs.declared.expr.Expr.{Expr, roll-Expr}
use Rattle.query_tree.specs.declared.expr.And.{And}
use Rattle.query_tree.specs.declared.expr.Not.{Not}
use Rattle.query_tree.specs.declared.expr.Not.TheVariants as nots
use Rattle.query_tree.specs.declared.expr.Pred.{Pred, roll-Pred}
use Rattle.query_tree.specs.declared.expr.PredRest.{PredRest}
use Rattle.query_tree.specs.declared.expr.PredRest.TheVariants as rest
use Rattle.query_tree.specs.declared.expr.Sum.{Sum, roll-Sum}
use Rattle.query_tree.specs.declared.expr.SumMore.{SumMore, roll-SumMore}
use Rattle.query_tree.specs.declared.expr.Prod.{Prod, roll-Prod}
use Rattle.query_tree.specs.declared.expr.ProdMore.{ProdMore}
use Rattle.query_tree.specs.declared.expr.Unary.{Unary}
use Rattle.query_tree.specs.declared.expr.Unary.TheVariants as unary
use Rattle.query_tree.specs.declared.expr.Primary.{Primary}
use Rattle.query_tree.specs.declared.expr.Primary.TheVariants as primary
use Rattle.query_tree.specs.declared.expr.Call.TheVariants as call
use Rattle.query_tree.specs.declared.expr.Args.{Args}
use Rattle.query_tree.specs.declared.expr.Args.TheVariants as args
use Rattle.query_tree.specs.declared.expr.Case.{roll-Case}
use Rattle.query_tree.specs.declared.expr.When.{When, roll-When}
use Rattle.query_grammar.specs.Leaves.{number_of, text_content}
use Rattle.query_grammar.specs.Lists.{set_of, one, fixed, flagged, listed, second_of, path, type_name}

-- how many openings are left, and the grammars for what stands inside one
pub record Inside : Type 1 where
  pub left : ℕ
  pub expr : Grammar Expr
  pub not : Grammar Not
  pub unary : Grammar Unary

-- how many are left inside an opening
abbrev pub lower : ℕ → ℕ
lower left = left - 1

-- a fixed word or sign that opens
abbrev pub opens : {A : Type 0} → Inside → Symbol → Grammar A → Grammar (Lexeme × A)
opens l word inner = opened l.left (one word) inner

-- ---- numbers, texts, NULL

abbrev pub number_from : Lexeme → Primary
number_from t = primary.Number t.place (number_of t.bytes)

abbrev pub text_from : Lexeme → Primary
text_from t = primary.Text t.place (text_content t.bytes)

abbrev pub null_from : Lexeme → Primary
null_from t = primary.Null t.place

unfoldable pub number : Grammar Primary
number = tree number_from (fixed symbol.Number)

unfoldable pub text : Grammar Primary
text = tree text_from (fixed symbol.Text)

unfoldable pub null : Grammar Primary
null = tree null_from (fixed symbol.Null)

-- ---- columns and calls

abbrev pub ArgParts : Type 0
ArgParts = Bool × (Expr × List Expr)

abbrev pub args_from : ℕ × (Lexeme ⊎ ArgParts) → Args
args_from (place, inl star) = args.Star place
args_from (place, inr parts) = args.Listed place parts.0 parts.1.0 parts.1.1

-- "*" | [DISTINCT] expr {"," expr}
unfoldable pub arguments : Inside → Grammar Args
arguments l = tree args_from (placed (choice (fixed symbol.Star) (both (flagged symbol.Distinct) (listed l.expr))))

abbrev pub call_args_from : Lexeme × (Option Args × Lexeme) → Option Args
call_args_from parts = parts.1.0

-- "(" [arguments] ")"
unfoldable pub call_args : Inside → Grammar (Option Args)
call_args l = tree call_args_from (opens l symbol.Open (both (perhaps (arguments l)) (fixed symbol.Close)))

abbrev pub call_from : Path × Option (Option Args) → Primary
call_from (name, None) = primary.Column name
call_from (name, Some parts) = primary.Call (call.Function name.place name parts)

-- column | path "(" [arguments] ")"
unfoldable pub column_or_call : Inside → Grammar Primary
column_or_call l = tree call_from (both path (perhaps (call_args l)))

abbrev pub cast_symbols : List ℕ
cast_symbols = set_of (symbol.Cast ∷ symbol.TryCast ∷ [])

abbrev pub cast_word : Lexeme → CastWord
cast_word t = if t.symbol == symbol_number symbol.Cast then Cast else TryCast

abbrev pub cast_type_from : Lexeme × (TypeName × Lexeme) → TypeName
cast_type_from parts = parts.1.0

-- AS type ")", where so many openings are left
unfoldable pub cast_type : ℕ → Grammar TypeName
cast_type left = tree cast_type_from (both (fixed symbol.As) (both (type_name left) (fixed symbol.Close)))

abbrev pub CastParts : Type 0
CastParts = Lexeme × (Lexeme × (Expr × TypeName))

abbrev pub cast_from : CastParts → Primary
cast_from parts = primary.Call (call.Cast parts.0.place (cast_word parts.0) parts.1.1.0 parts.1.1.1)

-- (CAST | TRY_CAST) "(" expr AS type ")"
unfoldable pub cast : Inside → Grammar Primary
cast l = tree cast_from (both (token cast_symbols) (opens l symbol.Open (both l.expr (cast_type (lower l.left)))))

-- ---- CASE

abbrev pub WhenParts : Type 0
WhenParts = Lexeme × (Expr × (Lexeme × Expr))

abbrev pub when_from : WhenParts → When
when_from parts = roll-When (record { place = parts.0.place; when = parts.1.0; then = parts.1.1.1 })

-- WHEN expr THEN expr
unfoldable pub when : Inside → Grammar When
when l = tree when_from (both (fixed symbol.When) (both l.expr (both (fixed symbol.Then) l.expr)))

-- ELSE expr
unfoldable pub else_part : Inside → Grammar Expr
else_part l = tree second_of (both (fixed symbol.Else) l.expr)

-- [ELSE expr] END
unfoldable pub case_end : Inside → Grammar (Option Expr)
case_end l = tree first_part (both (perhaps (else_part l)) (fixed symbol.End))

abbrev pub CaseParts : Type 0
CaseParts = Lexeme × (Option Expr × (When × (List When × Option Expr)))

abbrev pub case_from : CaseParts → Primary
case_from parts = primary.Case (roll-Case (record {
  place = parts.0.place;
  subject = parts.1.0;
  first = parts.1.1.0;
  more = parts.1.1.1.0;
  otherwise = parts.1.1.1.1;
}))

-- CASE [expr] WHEN expr THEN expr {WHEN expr THEN expr} [ELSE expr] END
unfoldable pub case : Inside → Grammar Primary
case l =
    tree case_from (opens l symbol.Case (both (perhaps l.expr) (both (when l) (both (repeated (when l)) (case_end l)))))

-- ---- parentheses

abbrev pub NestedParts : Type 0
NestedParts = Lexeme × (Expr × Lexeme)

abbrev pub nested_from : NestedParts → Primary
nested_from parts = primary.Nested parts.0.place parts.1.0

-- "(" expr ")"
unfoldable pub nested : Inside → Grammar Primary
nested l = tree nested_from (opens l symbol.Open (both l.expr (fixed symbol.Close)))

-- ---- primary, unary, products, sums

-- number | text | NULL | column | call | case | "(" expr ")"
unfoldable pub primary_rule : Inside → Grammar Primary
primary_rule l =
    or_else number (or_else text (or_else null (or_else (column_or_call l) (or_else (cast l) (or_else (case l) (nested l))))))

abbrev pub minus_from : Lexeme × Unary → Unary
minus_from parts = unary.Minus parts.0.place parts.1

-- "-" unary | primary
unfoldable pub unary_rule : Inside → Grammar Unary
unary_rule l = or_else (tree minus_from (opens l symbol.Minus l.unary)) (tree unary.Primary (primary_rule l))

abbrev pub prod_symbols : List ℕ
prod_symbols = set_of (symbol.Star ∷ symbol.Slash ∷ symbol.Percent ∷ [])

abbrev pub prod_sign : Lexeme → ProdSign
prod_sign t =
    if t.symbol == symbol_number symbol.Star then Star
    else (if t.symbol == symbol_number symbol.Slash then Slash else Percent)

abbrev pub prod_more_from : Lexeme × Unary → ProdMore
prod_more_from parts = record { place = parts.0.place; sign = prod_sign parts.0; unary = parts.1 }

unfoldable pub prod_more : Inside → Grammar ProdMore
prod_more l = tree prod_more_from (both (token prod_symbols) (unary_rule l))

abbrev pub prod_from : ℕ × (Unary × List ProdMore) → Prod
prod_from parts = roll-Prod (record { place = parts.0; first = parts.1.0; more = parts.1.1 })

-- unary {("*" | "/" | "%") unary}
unfoldable pub prod : Inside → Grammar Prod
prod l = tree prod_from (placed (both (unary_rule l) (repeated (prod_more l))))

abbrev pub sum_symbols : List ℕ
sum_symbols = set_of (symbol.Plus ∷ symbol.Minus ∷ [])

abbrev pub sum_sign : Lexeme → SumSign
sum_sign t = if t.symbol == symbol_number symbol.Plus then Plus else Minus

abbrev pub sum_more_from : Lexeme × Prod → SumMore
sum_more_from parts = roll-SumMore (record { place = parts.0.place; sign = sum_sign parts.0; prod = parts.1 })

unfoldable pub sum_more : Inside → Grammar SumMore
sum_more l = tree sum_more_from (both (token sum_symbols) (prod l))

abbrev pub sum_from : ℕ × (Prod × List SumMore) → Sum
sum_from parts = roll-Sum (record { place = parts.0; first = parts.1.0; more = parts.1.1 })

-- prod {("+" | "-") prod}
unfoldable pub sum : Inside → Grammar Sum
sum l = tree sum_from (placed (both (prod l) (repeated (sum_more l))))

-- ---- conditions

abbrev pub rel_symbols : List ℕ
rel_symbols =
    set_of (symbol.Equal ∷ symbol.Unequal ∷ symbol.Less ∷ symbol.LessEqual ∷ symbol.Greater ∷ symbol.GreaterEqual ∷ [])

abbrev pub rel_of : Lexeme → Rel
rel_of t =
    if t.symbol == symbol_number symbol.Equal then Eq
    else (if t.symbol == symbol_number symbol.Unequal then Ne
    else (if t.symbol == symbol_number symbol.Less then Lt
    else (if t.symbol == symbol_number symbol.LessEqual then Le
    else (if t.symbol == symbol_number symbol.Greater then Gt else Ge))))

abbrev pub compare_from : Lexeme × Sum → PredRest
compare_from parts = rest.Compare parts.0.place (rel_of parts.0) parts.1

-- rel sum
unfoldable pub compare : Inside → Grammar PredRest
compare l = tree compare_from (both (token rel_symbols) (sum l))

abbrev pub BetweenParts : Type 0
BetweenParts = Lexeme × (Sum × (Lexeme × Sum))

abbrev pub InParts : Type 0
InParts = Lexeme × (Lexeme × ((Expr × List Expr) × Lexeme))

abbrev pub LikeParts : Type 0
LikeParts = Lexeme × Sum

-- what NOT may stand before, with the place of the first byte and whether NOT is there
abbrev pub NegatableParts : Type 0
NegatableParts = BetweenParts ⊎ (InParts ⊎ LikeParts)

abbrev pub negatable_by : ℕ → Bool → NegatableParts → PredRest
negatable_by place not (inl parts) = rest.Between place not parts.1.0 parts.1.1.1
negatable_by place not (inr (inl parts)) = rest.In place not parts.1.1.0.0 parts.1.1.0.1
negatable_by place not (inr (inr parts)) = rest.Like place not parts.1

abbrev pub negatable_from : ℕ × (Bool × NegatableParts) → PredRest
negatable_from parts = negatable_by parts.0 parts.1.0 parts.1.1

unfoldable pub between : Inside → Grammar BetweenParts
between l = both (fixed symbol.Between) (both (sum l) (both (fixed symbol.And) (sum l)))

unfoldable pub in_list : Inside → Grammar InParts
in_list l = both (fixed symbol.In) (opens l symbol.Open (both (listed l.expr) (fixed symbol.Close)))

unfoldable pub like : Inside → Grammar LikeParts
like l = both (fixed symbol.Like) (sum l)

unfoldable pub negatable_parts : Inside → Grammar NegatableParts
negatable_parts l = choice (between l) (choice (in_list l) (like l))

-- [NOT] (BETWEEN sum AND sum | IN "(" expr {"," expr} ")" | LIKE sum)
unfoldable pub negatable : Inside → Grammar PredRest
negatable l = tree negatable_from (placed (both (flagged symbol.Not) (negatable_parts l)))

abbrev pub IsNullParts : Type 0
IsNullParts = Lexeme × (Bool × Lexeme)

abbrev pub is_null_from : IsNullParts → PredRest
is_null_from parts = rest.IsNull parts.0.place parts.1.0

-- IS [NOT] NULL
unfoldable pub is_null : Grammar PredRest
is_null = tree is_null_from (both (fixed symbol.Is) (both (flagged symbol.Not) (fixed symbol.Null)))

unfoldable pub pred_rest : Inside → Grammar PredRest
pred_rest l = or_else (compare l) (or_else (negatable l) is_null)

abbrev pub pred_from : ℕ × (Sum × Option PredRest) → Pred
pred_from parts = roll-Pred (record { place = parts.0; sum = parts.1.0; rest = parts.1.1 })

-- sum [rest]
unfoldable pub pred : Inside → Grammar Pred
pred l = tree pred_from (placed (both (sum l) (perhaps (pred_rest l))))

abbrev pub negation_from : Lexeme × Not → Not
negation_from parts = nots.Negation parts.0.place parts.1

-- NOT not | pred
unfoldable pub not_rule : Inside → Grammar Not
not_rule l = or_else (tree negation_from (opens l symbol.Not l.not)) (tree nots.Pred (pred l))

abbrev pub and_from : ℕ × (Not × List Not) → And
and_from parts = record { place = parts.0; first = parts.1.0; more = parts.1.1 }

-- not {AND not}
unfoldable pub and_more : Inside → Grammar Not
and_more l = tree second_of (both (fixed symbol.And) (not_rule l))

unfoldable pub conjunction : Inside → Grammar And
conjunction l = tree and_from (placed (both (not_rule l) (repeated (and_more l))))

abbrev pub expr_from : ℕ × (And × List And) → Expr
expr_from parts = roll-Expr (record { place = parts.0; first = parts.1.0; more = parts.1.1 })

-- and {OR and}
unfoldable pub or_more : Inside → Grammar And
or_more l = tree second_of (both (fixed symbol.Or) (conjunction l))

unfoldable pub disjunction : Inside → Grammar Expr
disjunction l = tree expr_from (placed (both (conjunction l) (repeated (or_more l))))

-- ---- by how many openings are left

abbrev pub with_left : ℕ → Inside → Inside
with_left left l = record { left = left; expr = l.expr; not = l.not; unary = l.unary }

-- what stands inside an opening where so many may still be made
unfoldable pub inner_rules : ℕ → Inside
inner_rules zero = record { left = zero; expr = never; not = never; unary = never }
inner_rules (suc left) =
    let l = with_left left (inner_rules left) in
    record { left = suc left; expr = disjunction l; not = not_rule l; unary = unary_rule l }

abbrev pub inside : ℕ → Inside
inside left = with_left left (inner_rules left)

-- an expression in which so many openings may be open at once
abbrev pub expr : ℕ → Grammar Expr
expr left = disjunction (inside left)
