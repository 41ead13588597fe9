-- The value of an expression and the truth of a condition, over the values of a row and its time.
use Rattle.std.specs.Prelude.{ℕ, Bool, if◌then◌else◌, Option, Some, None, List, [], ◌∷◌, slice_get}
use Rattle.query_plan.specs.declared.expr.Expr.{Expr, fold-Expr}
use Rattle.query_plan.specs.declared.expr.Branch.{Branch, fold-Branch}
use Rattle.query_plan.specs.declared.expr.Cond.{Cond, fold-Cond}
use Rattle.query_plan.specs.declared.expr.Cond.TheOpen.{Expr-F, Cond-F, Branch-F}
use Rattle.event_value.specs.declared.value.Value.{Value}
use Rattle.event_value.specs.declared.value.Value.TheVariants.{Null, Moment}
use Rattle.value_text.specs.Casts.{cast_value}
use Rattle.expr_eval.specs.Operations.{applied, is_null}
use Rattle.expr_eval.specs.Patterns.{like}
use Rattle.expr_eval.specs.Truths.{Truth, not3, and3, or3, is_true, compared, one_of}

abbrev pub or_null : Option Value → Value
or_null None = Null
or_null (Some v) = v

-- the value of a column; Null past the values
unfoldable pub column : List Value → ℕ → Value
column values n = or_null (slice_get values n)

-- the value beside the first condition that is true
unfoldable pub first_true : List (Truth × Value) → Option Value
first_true [] = None
first_true (branch ∷ more) = if is_true branch.0 then Some branch.1 else first_true more

-- that value, or else the other one, if there is one
abbrev pub chosen : Option Value → Option Value → Value
chosen (Some v) otherwise = v
chosen None otherwise = or_null otherwise

module _ (values : List Value) (time : ℕ) where
  -- an expression, with the value or the truth of each part in its place
  abbrev pub expr_step : Expr-F Truth Value (Truth × Value) → Value
  expr_step (Expr-F.Lit v) = v
  expr_step (Expr-F.Col n) = column values n
  expr_step Expr-F.Stamp = Moment time
  expr_step (Expr-F.Cast v kind) = cast_value kind v
  expr_step (Expr-F.Apply op vs) = applied op vs
  expr_step (Expr-F.Choose branches otherwise) = chosen (first_true branches) otherwise

  -- a condition, likewise
  abbrev pub cond_step : Cond-F Truth Value (Truth × Value) → Truth
  cond_step (Cond-F.Compare rel a b) = compared rel a b
  cond_step (Cond-F.And a b) = and3 a b
  cond_step (Cond-F.Or a b) = or3 a b
  cond_step (Cond-F.Not a) = not3 a
  cond_step (Cond-F.IsNull v) = Some (is_null v)
  cond_step (Cond-F.Like v pattern) = like v pattern
  cond_step (Cond-F.OneOf v vs) = one_of v vs

  -- a branch: its truth and its value
  abbrev pub branch_step : Branch-F Truth Value (Truth × Value) → Truth × Value
  branch_step branch = (branch.cond, branch.value)

  -- the value of an expression
  abbrev pub value_of : Expr → Value
  value_of = fold-Expr Truth Value (Truth × Value) cond_step expr_step branch_step

  -- the truth of a condition
  abbrev pub truth_of : Cond → Truth
  truth_of = fold-Cond Truth Value (Truth × Value) cond_step expr_step branch_step

  -- both of a branch
  abbrev pub branch_of : Branch → Truth × Value
  branch_of = fold-Branch Truth Value (Truth × Value) cond_step expr_step branch_step
