-- The bound in time of a join with a stream: the one difference of its sources among the parts of its condition.
use Rattle.std.specs.Prelude.{ℕ, ◌+◌, if◌then◌else◌, Option, Some, None, List, [], ◌∷◌, ℤ, neg_ℤ, int_le}
use Rattle.tick_time.specs.Span.{span_of_units}
use Rattle.tick_time.specs.declared.unit.Unit.{Unit}
use Rattle.query_tree.specs.declared.expr.And.{And, out-And}
use Rattle.query_tree.specs.declared.expr.Expr.{Expr, out-Expr}
use Rattle.query_tree.specs.declared.expr.Not.{Not}
use Rattle.query_literals.specs.declared.bounds.Bound.{Bound}
use Rattle.query_literals.specs.declared.bounds.Differences.{Differences}
use Rattle.query_literals.specs.declared.bounds.Differences.TheVariants.{Nowhere, Once, Several}
use Rattle.query_literals.specs.declared.differences.Difference.{Difference}
use Rattle.query_literals.specs.declared.literals.WholeLiteral.{WholeLiteral}
use Rattle.query_literals.specs.Bare.{alone}
use Rattle.query_literals.specs.Differences.{difference_in}

-- ---- lengths

abbrev pub value_of : WholeLiteral → ℤ
value_of n = if n.minus then neg_ℤ n.whole else n.whole

-- the length of so many units, where it is at most seven days
abbrev pub length_of : Unit → WholeLiteral → Option ℤ
length_of unit n = span_of_units unit (value_of n)

abbrev pub bound : ℕ → ℤ → ℤ → Bound
bound part low high = record { part = part; low = low; high = high }

-- the lower length is at most the upper one
abbrev pub bound_within : ℕ → Option ℤ → Option ℤ → Option Bound
bound_within part (Some low) (Some high) =
    if int_le low high then Some (bound part low high) else None
bound_within part _ _ = None

abbrev pub bound_by : ℕ → Difference → Option Bound
bound_by part d = bound_within part (length_of d.unit d.low) (length_of d.unit d.high)

-- ---- the parts of the condition

abbrev pub with_difference : Differences → ℕ → Option Difference → Differences
with_difference found place None = found
with_difference Nowhere place (Some d) = Once place d
with_difference (Once n e) place (Some d) = Several
with_difference Several place (Some d) = Several

-- how many of the parts from a place on are differences
abbrev pub differences_from : List ℕ → List ℕ → Differences → ℕ → List Not → Differences
differences_from left right found place [] = found
differences_from left right found place (p ∷ ps) =
    differences_from left right
    (with_difference found place (difference_in left right p)) (place + 1) ps

unfoldable pub differences_of : List ℕ → List ℕ → And → Differences
differences_of left right and =
    differences_from left right
    (with_difference Nowhere 0 (difference_in left right (out-And and).first))
    1 (out-And and).more

abbrev pub bound_of_differences : Differences → Option Bound
bound_of_differences Nowhere = None
bound_of_differences (Once part d) = bound_by part d
bound_of_differences Several = None

-- the bound of the sources of these names, in a condition without OR
unfoldable pub bound_of : List ℕ → List ℕ → Expr → Option Bound
bound_of left right e =
    alone (out-Expr e).more (bound_of_differences (differences_of left right (out-Expr e).first))
