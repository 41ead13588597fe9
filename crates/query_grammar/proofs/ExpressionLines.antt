-- What is known of each line of the grammar of expressions and of its reader.
use Rattle.std.proofs.Common.{◌≡◌, ◌<◌, ◌≤◌, ℕ, zero, suc, List, [], ◌∷◌, ◌++◌, Bool, true, false, refl, subst, arith, Option}
use Rattle.std.proofs.lemmas.List.{append-nil}
use Rattle.std.specs.Prelude.{if◌then◌else◌}
use Rattle.grammar_rules.specs.Lexemes.{Lexeme, among, disjoint, no_symbol, end_symbol}
use Rattle.grammar_rules.specs.Rules.{Grammar, both, tree, first_part}
use Rattle.grammar_rules.specs.Readers.{Reader, read_opened}
use Rattle.grammar_rules.specs.Laws.{Lawful, Keeps, Fits}
use Rattle.grammar_rules.proofs.UnderLaws.{Under-same}
use Rattle.grammar_rules.proofs.Fits.{fits_token, fits_flag, fits_both, fits_tree, fits_choice, fits_or_else, fits_perhaps, fits_repeated, fits_opened}
use Rattle.grammar_rules.proofs.PlacedLaws.{fits_placed}
use Rattle.grammar_rules.proofs.SetLaws.{fits_sets}
use Rattle.query_tokens.specs.declared.symbol.Symbol.{Symbol}
use Rattle.query_tokens.specs.declared.symbol.Symbol.TheVariants as symbol
use Rattle.query_tree.specs.declared.name.Name.{Name}
use Rattle.query_tree.specs.declared.name.Path.{Path}
use Rattle.query_tree.specs.declared.name.TypeName.{TypeName}
use Rattle.query_tree.specs.declared.expr.Expr.{Expr}
use Rattle.query_tree.specs.declared.expr.And.{And}
use Rattle.query_tree.specs.declared.expr.Not.{Not}
use Rattle.query_tree.specs.declared.expr.Not.TheVariants as nots
use Rattle.query_tree.specs.declared.expr.Pred.{Pred}
use Rattle.query_tree.specs.declared.expr.PredRest.{PredRest}
use Rattle.query_tree.specs.declared.expr.Sum.{Sum}
use Rattle.query_tree.specs.declared.expr.SumMore.{SumMore}
use Rattle.query_tree.specs.declared.expr.Prod.{Prod}
use Rattle.query_tree.specs.declared.expr.ProdMore.{ProdMore}
use Rattle.query_tree.specs.declared.expr.Unary.{Unary}
use Rattle.query_tree.specs.declared.expr.Unary.TheVariants as unary
use Rattle.query_tree.specs.declared.expr.Primary.{Primary}
use Rattle.query_tree.specs.declared.expr.Args.{Args}
use Rattle.query_tree.specs.declared.expr.When.{When}
use Rattle.query_grammar.specs.Leaves.{name_of}
use Rattle.query_grammar.specs.Lists.{set_of, one, fixed, flagged, listed, second_of, name_symbols, part_symbols, name, name_part, second_name, path, path_from, type_size, size_from, type_name, type_from}
use Rattle.query_grammar.specs.ExpressionGrammar.{Inside, lower, opens, number, number_from, text, text_from, null, null_from, arguments, args_from, call_args, call_args_from, column_or_call, call_from, cast, cast_symbols, cast_type, cast_type_from, cast_from, when, when_from, else_part, case_end, case, case_from, nested, nested_from, primary_rule, unary_rule, minus_from, prod_symbols, prod_more, prod_more_from, prod, prod_from, sum_symbols, sum_more, sum_more_from, sum, sum_from, rel_symbols, compare, compare_from, BetweenParts, between, InParts, in_list, LikeParts, like, NegatableParts, negatable_parts, negatable, negatable_from, is_null, is_null_from, pred_rest, pred, pred_from, not_rule, negation_from, and_more, conjunction, and_from, or_more, disjunction, expr_from, inner_rules, inside}
use Rattle.query_grammar.specs.Reading.{read_fixed, read_flagged, read_next, read_listed, read_name, read_name_part, read_second_name, read_path, read_paths, read_type_size, read_type_name, InsideReaders, read_opens, unary_symbols, expr_symbols, args_symbols, negatable_symbols, rest_symbols, read_exprs, read_arguments, read_call_args, read_column_or_call, read_cast_type, read_cast, read_when, read_whens, read_else, read_case_end, read_case, read_nested, read_number, read_text, read_null, read_primary, read_minus, read_unary, read_prod_more, read_prod, read_sum_more, read_sum, read_compare, read_between, read_in_list, read_like, read_negatable_parts, read_negatable, read_is_null, read_pred_rest, read_pred, read_negation, read_not, read_and_more, read_conjunction, read_or_more, read_disjunction, nothing_inside, inner_readers, readers}
use Rattle.query_grammar.proofs.Sets.{path_goes_on, paths_go_on, unary_goes_on, prod_goes_on, sum_goes_on, pred_goes_on, and_goes_on, expr_goes_on, exprs_go_on}

-- ---- lists, names

pub fixed_fits : {P : Type 0} (s : Symbol) → among (one s) end_symbol ≡ false → among (one s) no_symbol ≡ false → Fits Lexeme P (fixed s) (fixed s) (one s) [] false (read_fixed s)
fixed_fits s no_end absent = fits_token (one s) no_end absent

pub flagged_fits : {P : Type 0} (s : Symbol) → among (one s) end_symbol ≡ false → among (one s) no_symbol ≡ false → disjoint (one s) [] ≡ true
    → Fits Bool P (flagged s) (flagged s) (one s ++ []) (([] ++ []) ++ one s) true (read_flagged s)
flagged_fits s no_end absent apart = fits_flag (one s) no_end absent apart

-- a comma and a part
pub next_fits : {A P : Type 0} {R U : Grammar A} {b c : List ℕ} {read : Reader A} → Fits A P R U b c false read
    → Fits A P (tree second_of (both (fixed symbol.Comma) R)) (tree second_of (both (fixed symbol.Comma) U)) (one symbol.Comma) c false (read_next read)
next_fits {A} {P} {R} {U} {b} {c} {read} part =
    subst (λ (cs : List ℕ). Fits A P (tree second_of (both (fixed symbol.Comma) R)) (tree second_of (both (fixed symbol.Comma) U)) (one symbol.Comma) cs false (read_next read)) (append-nil c)
    (fits_tree second_of (fits_both (fixed_fits symbol.Comma refl refl) part refl))

pub listed_fits : {A P : Type 0} {R U : Grammar A} {b c : List ℕ} {read : Reader A} → Fits A P R U b c false read → disjoint c (one symbol.Comma) ≡ true
    → Fits (A × List A) P (listed R) (listed U) (b ++ []) ((c ++ one symbol.Comma) ++ c) false (read_listed read)
listed_fits part apart = fits_both part (fits_repeated (next_fits part) apart refl) apart

pub name_fits : {P : Type 0} → Fits Name P name name name_symbols [] false read_name
unfolding name read_name
name_fits = fits_tree name_of (fits_token name_symbols refl refl)

name_part_fits : {P : Type 0} → Fits Name P name_part name_part part_symbols [] false read_name_part
unfolding name_part read_name_part
name_part_fits = fits_tree name_of (fits_token part_symbols refl refl)

second_name_fits : {P : Type 0} → Fits Name P second_name second_name (one symbol.Point) [] false read_second_name
unfolding second_name read_second_name
second_name_fits = fits_tree second_of (fits_both (fixed_fits symbol.Point refl refl) name_part_fits refl)

pub path_fits : {P : Type 0} → Fits Path P path path name_symbols path_goes_on false read_path
unfolding path read_path
path_fits = fits_tree path_from (fits_both name_fits (fits_perhaps second_name_fits refl refl) refl)

pub paths_fits : {P : Type 0} → Fits (Path × List Path) P (listed path) (listed path) name_symbols paths_go_on false read_paths
unfolding read_paths
paths_fits = fits_sets name_symbols paths_go_on refl refl (listed_fits path_fits refl)

type_size_fits : {P : Type 0} (left more : ℕ) → left ≤ more → (P → left < more) → Fits Name P (type_size left) (type_size more) (one symbol.Open) [] false (read_type_size left)
unfolding type_size read_type_size
type_size_fits {P} left more le less =
    fits_tree size_from
    (fits_opened left more (one symbol.Open) le less refl refl
    (λ h. (fits_both {P = P} (fixed_fits symbol.Word refl refl) (fixed_fits symbol.Close refl refl) refl).laws)
    (λ h. fits_both (fixed_fits symbol.Word refl refl) (fixed_fits symbol.Close refl refl) refl))

pub type_name_fits : {P : Type 0} (left more : ℕ) → left ≤ more → (P → left < more) → Fits TypeName P (type_name left) (type_name more) (one symbol.Word) (one symbol.Open) false (read_type_name left)
unfolding type_name read_type_name
type_name_fits left more le less =
    fits_tree type_from (fits_both (fixed_fits symbol.Word refl refl) (fits_perhaps (type_size_fits left more le less) refl refl) refl)

-- ---- what stands inside an opening

-- what is known inside an opening, where one may be made
pub record Given (P : Type 0) (l m : Inside) (r : InsideReaders) : Type 0 where
  pub positive : 0 < l.left
  pub le : l.left ≤ m.left
  pub less : P → l.left < m.left
  pub left : l.left ≡ r.left
  pub expr : Fits Expr P l.expr m.expr expr_symbols expr_goes_on false r.expr
  pub not : Fits Not P l.not m.not expr_symbols pred_goes_on false r.not
  pub unary : Fits Unary P l.unary m.unary unary_symbols unary_goes_on false r.unary

abbrev pub no_readers : ℕ → InsideReaders
no_readers left = record { left = left; expr = nothing_inside; not = nothing_inside; unary = nothing_inside }

-- what is known where perhaps no opening may be made
pub record InsideFits (P : Type 0) (l m : Inside) (r : InsideReaders) : Type 0 where
  pub le : l.left ≤ m.left
  pub less : P → l.left < m.left
  pub left : l.left ≡ r.left
  pub given : 0 < l.left → Given P l m r
  pub wider : 0 < m.left → Given ⊥ m m (no_readers m.left)

-- an opening with what stands inside it
opens_fits : {A P : Type 0} {l m : Inside} {r : InsideReaders} (s : Symbol) (R : Inside → Grammar A) (read : InsideReaders → Reader A) (b c : List ℕ) (n : Bool)
    → among (one s) end_symbol ≡ false → among (one s) no_symbol ≡ false
    → ((Q : Type 0) (l' m' : Inside) (r' : InsideReaders) → Given Q l' m' r' → Fits A Q (R l') (R m') b c n (read r'))
    → InsideFits P l m r → Fits (Lexeme × A) P (opens l s (R l)) (opens m s (R m)) (one s) (c ++ (if n then [] else [])) false (read_opens r s (read r))
opens_fits {A} {P} {l} {m} {r} s R read b c n no_end absent content g =
    subst (λ (k : ℕ). Fits (Lexeme × A) P (opens l s (R l)) (opens m s (R m)) (one s) (c ++ (if n then [] else [])) false (read_opened k (one s) (read r))) g.left
    (fits_opened l.left m.left (one s) g.le g.less no_end absent
    (λ h. (content ⊥ m m (no_readers m.left) (g.wider h)).laws)
    (λ h. content P l m r (g.given h)))

-- ---- primaries

number_fits : {P : Type 0} → Fits Primary P number number (one symbol.Number) [] false read_number
unfolding number read_number
number_fits = fits_tree number_from (fixed_fits symbol.Number refl refl)

text_fits : {P : Type 0} → Fits Primary P text text (one symbol.Text) [] false read_text
unfolding text read_text
text_fits = fits_tree text_from (fixed_fits symbol.Text refl refl)

null_fits : {P : Type 0} → Fits Primary P null null (one symbol.Null) [] false read_null
unfolding null read_null
null_fits = fits_tree null_from (fixed_fits symbol.Null refl refl)

pub exprs_fits : {P : Type 0} (l m : Inside) (r : InsideReaders) → Given P l m r → Fits (Expr × List Expr) P (listed l.expr) (listed m.expr) expr_symbols exprs_go_on false (read_exprs r)
unfolding read_exprs
exprs_fits l m r g = fits_sets expr_symbols exprs_go_on refl refl (listed_fits g.expr refl)

arguments_fits : {P : Type 0} (l m : Inside) (r : InsideReaders) → Given P l m r → Fits Args P (arguments l) (arguments m) args_symbols exprs_go_on false (read_arguments r)
unfolding arguments read_arguments
arguments_fits l m r g =
    fits_tree args_from
    (fits_placed (fits_choice (fixed_fits symbol.Star refl refl)
    (fits_both (flagged_fits symbol.Distinct refl refl refl) (exprs_fits l m r g) refl) refl refl))

call_args_fits : {P : Type 0} (l m : Inside) (r : InsideReaders) → InsideFits P l m r → Fits (Option Args) P (call_args l) (call_args m) (one symbol.Open) [] false (read_call_args r)
unfolding call_args read_call_args
call_args_fits l m r g =
    fits_tree call_args_from
    (opens_fits symbol.Open _ _ _ _ _ refl refl
    (λ Q l' m' r' given. fits_both (fits_perhaps (arguments_fits l' m' r' given) refl refl) (fixed_fits symbol.Close refl refl) refl) g)

column_or_call_fits : {P : Type 0} (l m : Inside) (r : InsideReaders) → InsideFits P l m r → Fits Primary P (column_or_call l) (column_or_call m) name_symbols unary_goes_on false (read_column_or_call r)
unfolding column_or_call read_column_or_call
column_or_call_fits l m r g = fits_tree call_from (fits_both path_fits (fits_perhaps (call_args_fits l m r g) refl refl) refl)

cast_type_fits : {P : Type 0} (left more : ℕ) → left ≤ more → (P → left < more) → Fits TypeName P (cast_type left) (cast_type more) (one symbol.As) [] false (read_cast_type left)
unfolding cast_type read_cast_type
cast_type_fits left more le less =
    fits_tree cast_type_from
    (fits_both (fixed_fits symbol.As refl refl) (fits_both (type_name_fits left more le less) (fixed_fits symbol.Close refl refl) refl) refl)

cast_fits : {P : Type 0} (l m : Inside) (r : InsideReaders) → InsideFits P l m r → Fits Primary P (cast l) (cast m) cast_symbols [] false (read_cast r)
unfolding cast read_cast
cast_fits l m r g =
    fits_tree cast_from
    (fits_both (fits_token cast_symbols refl refl)
    (opens_fits symbol.Open _ _ _ _ _ refl refl (λ Q l' m' r' given. fits_both given.expr (type_inside l' m' r' given) refl) g) refl)
  where
    lower_le : (n k : ℕ) → n ≤ k → lower n ≤ lower k
    lower_le n k le = omega arith

    lower_less : (n k : ℕ) → 0 < n → n < k → lower n < lower k
    lower_less n k p less = omega arith

    type_inside : {Q : Type 0} (l' m' : Inside) (r' : InsideReaders) → Given Q l' m' r' → Fits TypeName Q (cast_type (lower l'.left)) (cast_type (lower m'.left)) (one symbol.As) [] false (read_cast_type (lower r'.left))
    type_inside {Q} l' m' r' given =
        subst (λ (k : ℕ). Fits TypeName Q (cast_type (lower l'.left)) (cast_type (lower m'.left)) (one symbol.As) [] false (read_cast_type (lower k))) given.left
        (cast_type_fits (lower l'.left) (lower m'.left) (lower_le _ _ given.le) (λ q. lower_less _ _ given.positive (given.less q)))

pub when_fits : {P : Type 0} (l m : Inside) (r : InsideReaders) → Given P l m r → Fits When P (when l) (when m) (one symbol.When) expr_goes_on false (read_when r)
unfolding when read_when
when_fits l m r g =
    fits_tree when_from (fits_both (fixed_fits symbol.When refl refl) (fits_both g.expr (fits_both (fixed_fits symbol.Then refl refl) g.expr refl) refl) refl)

else_fits : {P : Type 0} (l m : Inside) (r : InsideReaders) → Given P l m r → Fits Expr P (else_part l) (else_part m) (one symbol.Else) expr_goes_on false (read_else r)
unfolding else_part read_else
else_fits l m r g = fits_tree second_of (fits_both (fixed_fits symbol.Else refl refl) g.expr refl)

case_end_fits : {P : Type 0} (l m : Inside) (r : InsideReaders) → Given P l m r → Fits (Option Expr) P (case_end l) (case_end m) (set_of (symbol.Else ∷ symbol.End ∷ [])) [] false (read_case_end r)
unfolding case_end read_case_end
case_end_fits l m r g = fits_tree first_part (fits_both (fits_perhaps (else_fits l m r g) refl refl) (fixed_fits symbol.End refl refl) refl)

case_fits : {P : Type 0} (l m : Inside) (r : InsideReaders) → InsideFits P l m r → Fits Primary P (case l) (case m) (one symbol.Case) [] false (read_case r)
unfolding case read_case read_whens
case_fits l m r g =
    fits_tree case_from
    (opens_fits symbol.Case _ _ _ _ _ refl refl
    (λ Q l' m' r' given.
    fits_both (fits_perhaps given.expr refl refl)
    (fits_both (when_fits l' m' r' given)
    (fits_both (fits_repeated (when_fits l' m' r' given) refl refl) (case_end_fits l' m' r' given) refl) refl) refl) g)

nested_fits : {P : Type 0} (l m : Inside) (r : InsideReaders) → InsideFits P l m r → Fits Primary P (nested l) (nested m) (one symbol.Open) [] false (read_nested r)
unfolding nested read_nested
nested_fits l m r g =
    fits_tree nested_from (opens_fits symbol.Open _ _ _ _ _ refl refl (λ Q l' m' r' given. fits_both given.expr (fixed_fits symbol.Close refl refl) refl) g)

primary_fits : {P : Type 0} (l m : Inside) (r : InsideReaders) → InsideFits P l m r
    → Fits Primary P (primary_rule l) (primary_rule m) (set_of (symbol.Number ∷ symbol.Text ∷ symbol.Null ∷ symbol.Word ∷ symbol.Bracketed ∷ symbol.Cast ∷ symbol.TryCast ∷ symbol.Case ∷ symbol.Open ∷ [])) unary_goes_on false (read_primary r)
unfolding primary_rule read_primary
primary_fits l m r g =
    fits_or_else number_fits (fits_or_else text_fits (fits_or_else null_fits
    (fits_or_else (column_or_call_fits l m r g) (fits_or_else (cast_fits l m r g) (fits_or_else (case_fits l m r g) (nested_fits l m r g) refl refl) refl refl) refl refl) refl refl) refl refl) refl refl

-- ---- unaries, products, sums

minus_fits : {P : Type 0} (l m : Inside) (r : InsideReaders) → InsideFits P l m r → Fits Unary P (tree minus_from (opens l symbol.Minus l.unary)) (tree minus_from (opens m symbol.Minus m.unary)) (one symbol.Minus) unary_goes_on false (read_minus r)
unfolding read_minus
minus_fits l m r g = fits_tree minus_from (opens_fits symbol.Minus (λ l'. l'.unary) (λ r'. r'.unary) _ _ _ refl refl (λ Q l' m' r' given. given.unary) g)

pub unary_fits : {P : Type 0} (l m : Inside) (r : InsideReaders) → InsideFits P l m r → Fits Unary P (unary_rule l) (unary_rule m) unary_symbols unary_goes_on false (read_unary r)
unfolding unary_rule read_unary
unary_fits l m r g =
    fits_sets unary_symbols unary_goes_on refl refl (fits_or_else (minus_fits l m r g) (fits_tree unary.Primary (primary_fits l m r g)) refl refl)

pub prod_more_fits : {P : Type 0} (l m : Inside) (r : InsideReaders) → InsideFits P l m r → Fits ProdMore P (prod_more l) (prod_more m) prod_symbols unary_goes_on false (read_prod_more r)
unfolding prod_more read_prod_more
prod_more_fits l m r g = fits_tree prod_more_from (fits_both (fits_token prod_symbols refl refl) (unary_fits l m r g) refl)

prod_fits : {P : Type 0} (l m : Inside) (r : InsideReaders) → InsideFits P l m r → Fits Prod P (prod l) (prod m) unary_symbols prod_goes_on false (read_prod r)
unfolding prod read_prod
prod_fits l m r g =
    fits_sets unary_symbols prod_goes_on refl refl (fits_tree prod_from (fits_placed (fits_both (unary_fits l m r g) (fits_repeated (prod_more_fits l m r g) refl refl) refl)))

pub sum_more_fits : {P : Type 0} (l m : Inside) (r : InsideReaders) → InsideFits P l m r → Fits SumMore P (sum_more l) (sum_more m) sum_symbols prod_goes_on false (read_sum_more r)
unfolding sum_more read_sum_more
sum_more_fits l m r g = fits_tree sum_more_from (fits_both (fits_token sum_symbols refl refl) (prod_fits l m r g) refl)

sum_fits : {P : Type 0} (l m : Inside) (r : InsideReaders) → InsideFits P l m r → Fits Sum P (sum l) (sum m) unary_symbols sum_goes_on false (read_sum r)
unfolding sum read_sum
sum_fits l m r g =
    fits_sets unary_symbols sum_goes_on refl refl (fits_tree sum_from (fits_placed (fits_both (prod_fits l m r g) (fits_repeated (sum_more_fits l m r g) refl refl) refl)))

-- ---- conditions

compare_fits : {P : Type 0} (l m : Inside) (r : InsideReaders) → InsideFits P l m r → Fits PredRest P (compare l) (compare m) rel_symbols sum_goes_on false (read_compare r)
unfolding compare read_compare
compare_fits l m r g = fits_tree compare_from (fits_both (fits_token rel_symbols refl refl) (sum_fits l m r g) refl)

between_fits : {P : Type 0} (l m : Inside) (r : InsideReaders) → InsideFits P l m r → Fits BetweenParts P (between l) (between m) (one symbol.Between) sum_goes_on false (read_between r)
unfolding between read_between
between_fits l m r g =
    fits_both (fixed_fits symbol.Between refl refl) (fits_both (sum_fits l m r g) (fits_both (fixed_fits symbol.And refl refl) (sum_fits l m r g) refl) refl) refl

in_list_fits : {P : Type 0} (l m : Inside) (r : InsideReaders) → InsideFits P l m r → Fits InParts P (in_list l) (in_list m) (one symbol.In) [] false (read_in_list r)
unfolding in_list read_in_list
in_list_fits l m r g =
    fits_both (fixed_fits symbol.In refl refl)
    (opens_fits symbol.Open _ _ _ _ _ refl refl (λ Q l' m' r' given. fits_both (exprs_fits l' m' r' given) (fixed_fits symbol.Close refl refl) refl) g) refl

like_fits : {P : Type 0} (l m : Inside) (r : InsideReaders) → InsideFits P l m r → Fits LikeParts P (like l) (like m) (one symbol.Like) sum_goes_on false (read_like r)
unfolding like read_like
like_fits l m r g = fits_both (fixed_fits symbol.Like refl refl) (sum_fits l m r g) refl

negatable_parts_fits : {P : Type 0} (l m : Inside) (r : InsideReaders) → InsideFits P l m r
    → Fits NegatableParts P (negatable_parts l) (negatable_parts m) (set_of (symbol.Between ∷ symbol.In ∷ symbol.Like ∷ [])) sum_goes_on false (read_negatable_parts r)
unfolding negatable_parts read_negatable_parts
negatable_parts_fits l m r g =
    fits_sets (set_of (symbol.Between ∷ symbol.In ∷ symbol.Like ∷ [])) sum_goes_on refl refl
    (fits_choice (between_fits l m r g) (fits_choice (in_list_fits l m r g) (like_fits l m r g) refl refl) refl refl)

negatable_fits : {P : Type 0} (l m : Inside) (r : InsideReaders) → InsideFits P l m r → Fits PredRest P (negatable l) (negatable m) negatable_symbols sum_goes_on false (read_negatable r)
unfolding negatable read_negatable
negatable_fits l m r g =
    fits_sets negatable_symbols sum_goes_on refl refl
    (fits_tree negatable_from
    (fits_placed (fits_both (flagged_fits symbol.Not refl refl refl) (negatable_parts_fits l m r g) refl)))

is_null_fits : {P : Type 0} → Fits PredRest P is_null is_null (one symbol.Is) [] false read_is_null
unfolding is_null read_is_null
is_null_fits =
    fits_tree is_null_from (fits_both (fixed_fits symbol.Is refl refl) (fits_both (flagged_fits symbol.Not refl refl refl) (fixed_fits symbol.Null refl refl) refl) refl)

pred_rest_fits : {P : Type 0} (l m : Inside) (r : InsideReaders) → InsideFits P l m r → Fits PredRest P (pred_rest l) (pred_rest m) rest_symbols sum_goes_on false (read_pred_rest r)
unfolding pred_rest read_pred_rest
pred_rest_fits l m r g =
    fits_sets rest_symbols sum_goes_on refl refl (fits_or_else (compare_fits l m r g) (fits_or_else (negatable_fits l m r g) is_null_fits refl refl) refl refl)

pred_fits : {P : Type 0} (l m : Inside) (r : InsideReaders) → InsideFits P l m r → Fits Pred P (pred l) (pred m) unary_symbols pred_goes_on false (read_pred r)
unfolding pred read_pred
pred_fits l m r g =
    fits_sets unary_symbols pred_goes_on refl refl (fits_tree pred_from (fits_placed (fits_both (sum_fits l m r g) (fits_perhaps (pred_rest_fits l m r g) refl refl) refl)))

negation_fits : {P : Type 0} (l m : Inside) (r : InsideReaders) → InsideFits P l m r → Fits Not P (tree negation_from (opens l symbol.Not l.not)) (tree negation_from (opens m symbol.Not m.not)) (one symbol.Not) pred_goes_on false (read_negation r)
unfolding read_negation
negation_fits l m r g = fits_tree negation_from (opens_fits symbol.Not (λ l'. l'.not) (λ r'. r'.not) _ _ _ refl refl (λ Q l' m' r' given. given.not) g)

pub not_fits : {P : Type 0} (l m : Inside) (r : InsideReaders) → InsideFits P l m r → Fits Not P (not_rule l) (not_rule m) expr_symbols pred_goes_on false (read_not r)
unfolding not_rule read_not
not_fits l m r g =
    fits_sets expr_symbols pred_goes_on refl refl (fits_or_else (negation_fits l m r g) (fits_tree nots.Pred (pred_fits l m r g)) refl refl)

pub and_more_fits : {P : Type 0} (l m : Inside) (r : InsideReaders) → InsideFits P l m r → Fits Not P (and_more l) (and_more m) (one symbol.And) pred_goes_on false (read_and_more r)
unfolding and_more read_and_more
and_more_fits l m r g = fits_tree second_of (fits_both (fixed_fits symbol.And refl refl) (not_fits l m r g) refl)

conjunction_fits : {P : Type 0} (l m : Inside) (r : InsideReaders) → InsideFits P l m r → Fits And P (conjunction l) (conjunction m) expr_symbols and_goes_on false (read_conjunction r)
unfolding conjunction read_conjunction
conjunction_fits l m r g =
    fits_sets expr_symbols and_goes_on refl refl (fits_tree and_from (fits_placed (fits_both (not_fits l m r g) (fits_repeated (and_more_fits l m r g) refl refl) refl)))

pub or_more_fits : {P : Type 0} (l m : Inside) (r : InsideReaders) → InsideFits P l m r → Fits And P (or_more l) (or_more m) (one symbol.Or) and_goes_on false (read_or_more r)
unfolding or_more read_or_more
or_more_fits l m r g = fits_tree second_of (fits_both (fixed_fits symbol.Or refl refl) (conjunction_fits l m r g) refl)

pub disjunction_fits : {P : Type 0} (l m : Inside) (r : InsideReaders) → InsideFits P l m r → Fits Expr P (disjunction l) (disjunction m) expr_symbols expr_goes_on false (read_disjunction r)
unfolding disjunction read_disjunction
disjunction_fits l m r g =
    fits_sets expr_symbols expr_goes_on refl refl (fits_tree expr_from (fits_placed (fits_both (conjunction_fits l m r g) (fits_repeated (or_more_fits l m r g) refl refl) refl)))

-- ---- at each depth

nothing_keeps : {A : Type 0} → Keeps A nothing_inside
nothing_keeps = record { ended = λ ts rest a ended e. cc (e) }

-- a grammar by itself, which is read nowhere
alone : {A : Type 0} {R : Grammar A} {b c : List ℕ} {n : Bool} → Lawful A R b c n → Fits A ⊥ R R b c n nothing_inside
alone {A} {R} laws = record { laws = laws; wider_laws = laws; under = Under-same A R; reads = λ p. absurd p; keeps = nothing_keeps }

abbrev below : (P : Type 0) (d e : ℕ) → Type 0
below P d e = InsideFits P (inside d) (inside e) (readers d)

wider_given : (e : ℕ) → below ⊥ e e → Given ⊥ (inside (suc e)) (inside (suc e)) (no_readers (inside (suc e)).left)
unfolding inner_rules inner_readers
wider_given e g = record {
  positive = omega arith;
  le = omega arith;
  less = λ p. absurd p;
  left = refl;
  expr = alone (disjunction_fits (inside e) (inside e) (readers e) g).laws;
  not = alone (not_fits (inside e) (inside e) (readers e) g).laws;
  unary = alone (unary_fits (inside e) (inside e) (readers e) g).laws;
}

next_given : (P : Type 0) (d e : ℕ) → d ≤ e → (P → d < e) → below P d e → Given P (inside (suc d)) (inside (suc e)) (readers (suc d))
unfolding inner_rules inner_readers
next_given P d e le less g = record {
  positive = omega arith;
  le = omega arith;
  less = λ p. let l = less p in omega arith;
  left = refl;
  expr = disjunction_fits (inside d) (inside e) (readers d) g;
  not = not_fits (inside d) (inside e) (readers d) g;
  unary = unary_fits (inside d) (inside e) (readers d) g;
}

zero_zero : (P : Type 0) → (P → 0 < 0) → below P zero zero
unfolding inner_rules inner_readers
zero_zero P less = record { le = omega arith; less = less; left = refl; given = λ h. absurd (omega arith); wider = λ h. absurd (omega arith) }

zero_suc : (P : Type 0) (e : ℕ) → below ⊥ e e → below P zero (suc e)
unfolding inner_rules inner_readers
zero_suc P e g = record { le = omega arith; less = λ p. omega arith; left = refl; given = λ h. absurd (omega arith); wider = λ h. wider_given e g }

suc_suc : (P : Type 0) (d e : ℕ) → d ≤ e → (P → d < e) → below P d e → below ⊥ e e → below P (suc d) (suc e)
unfolding inner_rules inner_readers
suc_suc P d e le less g g' = record {
  le = omega arith;
  less = λ p. let l = less p in omega arith;
  left = refl;
  given = λ h. next_given P d e le less g;
  wider = λ h. wider_given e g';
}

pub inside_fits : (P : Type 0) (d e : ℕ) → d ≤ e → (P → d < e) → InsideFits P (inside d) (inside e) (readers d)
inside_fits P zero zero le less = zero_zero P less
inside_fits P zero (suc e) le less = zero_suc P e (inside_fits ⊥ e e (omega arith) (λ p. absurd p))
inside_fits P (suc d) zero le less = absurd (omega arith)
inside_fits P (suc d) (suc e) le less =
    suc_suc P d e (omega arith) (λ p. let l = less p in omega arith) (inside_fits P d e (omega arith) (λ p. let l = less p in omega arith)) (inside_fits ⊥ e e (omega arith) (λ p. absurd p))

-- expressions within a number of openings and within a greater one
pub expr_fits : (P : Type 0) (d e : ℕ) → d ≤ e → (P → d < e) → Fits Expr P (disjunction (inside d)) (disjunction (inside e)) expr_symbols expr_goes_on false (read_disjunction (readers d))
expr_fits P d e le less = disjunction_fits (inside d) (inside e) (readers d) (inside_fits P d e le less)
