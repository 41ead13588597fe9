-- Whether two expressions of a plan are the same: the same form with the same parts.
use Rattle.std.specs.Prelude.{map, ℕ, ◌==◌, Bool, true, false, ◌&&◌, Option, Some, None, List, [], ◌∷◌}
use Rattle.std.specs.Ordering.{is_eq}
use Rattle.std.specs.Str.{bytes_eq}
use Rattle.tick_time.specs.declared.part.Part.{Part}
use Rattle.tick_time.specs.declared.part.Part.TheVariants as part
use Rattle.event_value.specs.declared.value.Value.{Value}
use Rattle.query_plan.specs.declared.expr.Op.{Op}
use Rattle.query_plan.specs.declared.expr.Op.TheVariants as op
use Rattle.query_plan.specs.declared.expr.Rel.{Rel}
use Rattle.query_plan.specs.declared.expr.Rel.TheVariants as rel
use Rattle.query_plan.specs.declared.expr.Expr.{Expr, fold-Expr, out-Expr}
use Rattle.query_plan.specs.declared.expr.Branch.{Branch, fold-Branch, out-Branch}
use Rattle.query_plan.specs.declared.expr.Cond.{Cond, fold-Cond, out-Cond}
use Rattle.query_plan.specs.declared.expr.Cond.TheOpen.{Expr-F, Cond-F, Branch-F}
use Rattle.event_value.specs.Order.{value_order}
use Rattle.query_forms.specs.Kinds.{is_same_kind}

abbrev pub is_same_value : Value → Value → Bool
is_same_value v w = is_eq (value_order v w)

-- the place of a part among the parts
abbrev pub part_rank : Part → ℕ
part_rank part.Year = 0
part_rank part.Month = 1
part_rank part.Day = 2
part_rank part.Hour = 3
part_rank part.Minute = 4
part_rank part.Second = 5
part_rank part.Millisecond = 6
part_rank part.Microsecond = 7

-- the place of an operation among the operations, and of its part among the parts
abbrev pub op_rank : Op → ℕ × ℕ
op_rank op.Add = (0, 0)
op_rank op.Sub = (1, 0)
op_rank op.Mul = (2, 0)
op_rank op.Div = (3, 0)
op_rank op.Rem = (4, 0)
op_rank op.Neg = (5, 0)
op_rank op.Abs = (6, 0)
op_rank (op.DateAdd p) = (7, part_rank p)
op_rank (op.DateDiff p) = (8, part_rank p)
op_rank (op.DatePart p) = (9, part_rank p)
op_rank op.Len = (10, 0)
op_rank op.Lower = (11, 0)
op_rank op.Upper = (12, 0)
op_rank op.Substring = (13, 0)
op_rank op.Concat = (14, 0)
op_rank op.Coalesce = (15, 0)

abbrev pub is_same_op : Op → Op → Bool
is_same_op a b = ((op_rank a).0 == (op_rank b).0) && ((op_rank a).1 == (op_rank b).1)

-- the place of a relation among the relations
abbrev pub rel_rank : Rel → ℕ
rel_rank rel.Eq = 0
rel_rank rel.Ne = 1
rel_rank rel.Lt = 2
rel_rank rel.Le = 3
rel_rank rel.Gt = 4
rel_rank rel.Ge = 5

abbrev pub is_same_rel : Rel → Rel → Bool
is_same_rel a b = rel_rank a == rel_rank b

-- the tests of one list hold of the members of the other, one by one
abbrev pub all_hold : {A : Type 0} → List (A → Bool) → List A → Bool
all_hold [] [] = true
all_hold [] (x ∷ xs) = false
all_hold (t ∷ ts) [] = false
all_hold (t ∷ ts) (x ∷ xs) = t x && all_hold ts xs

-- the test holds of what is there, or nothing is there where there is no test
abbrev pub option_holds : {A : Type 0} → Option (A → Bool) → Option A → Bool
option_holds None None = true
option_holds None (Some x) = false
option_holds (Some t) None = false
option_holds (Some t) (Some x) = t x

-- one level of an expression: the test for it, made of the tests for its parts
abbrev pub ExprTest : Type 0
ExprTest = Expr-F (Cond → Bool) (Expr → Bool) (Branch → Bool)

abbrev pub expr_test_of : ExprTest → Expr-F Cond Expr Branch → Bool
expr_test_of (Expr-F.Lit v) (Expr-F.Lit w) = is_same_value v w
expr_test_of (Expr-F.Col n) (Expr-F.Col m) = n == m
expr_test_of Expr-F.Stamp Expr-F.Stamp = true
expr_test_of (Expr-F.Cast t j) (Expr-F.Cast e k) = is_same_kind j k && t e
expr_test_of (Expr-F.Apply o ts) (Expr-F.Apply p es) = is_same_op o p && all_hold ts es
expr_test_of (Expr-F.Choose ts t) (Expr-F.Choose bs e) = all_hold ts bs && option_holds t e
expr_test_of _ _ = false

abbrev pub expr_test : ExprTest → Expr → Bool
expr_test level other = expr_test_of level (out-Expr other)

-- one level of a condition, likewise
abbrev pub CondTest : Type 0
CondTest = Cond-F (Cond → Bool) (Expr → Bool) (Branch → Bool)

abbrev pub cond_test_of : CondTest → Cond-F Cond Expr Branch → Bool
cond_test_of (Cond-F.Compare r s t) (Cond-F.Compare q a b) = is_same_rel r q && s a && t b
cond_test_of (Cond-F.And s t) (Cond-F.And a b) = s a && t b
cond_test_of (Cond-F.Or s t) (Cond-F.Or a b) = s a && t b
cond_test_of (Cond-F.Not t) (Cond-F.Not a) = t a
cond_test_of (Cond-F.IsNull t) (Cond-F.IsNull a) = t a
cond_test_of (Cond-F.Like t p) (Cond-F.Like a q) = bytes_eq p q && t a
cond_test_of (Cond-F.OneOf t ts) (Cond-F.OneOf a es) = t a && all_hold ts es
cond_test_of _ _ = false

abbrev pub cond_test : CondTest → Cond → Bool
cond_test level other = cond_test_of level (out-Cond other)

-- one level of a branch, likewise
abbrev pub BranchTest : Type 0
BranchTest = Branch-F (Cond → Bool) (Expr → Bool) (Branch → Bool)

abbrev pub branch_test : BranchTest → Branch → Bool
branch_test level other = level.cond (out-Branch other).cond && level.value (out-Branch other).value

abbrev pub is_same_expr : Expr → Expr → Bool
is_same_expr = fold-Expr (Cond → Bool) (Expr → Bool) (Branch → Bool) cond_test expr_test branch_test

abbrev pub is_same_cond : Cond → Cond → Bool
is_same_cond = fold-Cond (Cond → Bool) (Expr → Bool) (Branch → Bool) cond_test expr_test branch_test

abbrev pub is_same_branch : Branch → Branch → Bool
is_same_branch =
    fold-Branch (Cond → Bool) (Expr → Bool) (Branch → Bool) cond_test expr_test branch_test

abbrev pub are_same_exprs : List Expr → List Expr → Bool
are_same_exprs es others = all_hold (map is_same_expr es) others

abbrev pub are_same_branches : List Branch → List Branch → Bool
are_same_branches bs others = all_hold (map is_same_branch bs) others
