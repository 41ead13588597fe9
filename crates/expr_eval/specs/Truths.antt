-- Conditions: true, false or, as None, unknown.
use Rattle.std.specs.Prelude.{ℕ, ℤ, pos, ◌*ℤ◌, Bool, true, false, not, ◌&&◌, if◌then◌else◌, Option, Some, None, List, [], ◌∷◌}
use Rattle.std.specs.declared.cmp.Ordering.{Ordering}
use Rattle.std.specs.Ordering.{is_eq, is_ne, is_lt, is_le, is_gt, is_ge, int_cmp, nat_cmp}
use Rattle.std.specs.Cmp.Lexicographic.{slice_cmp}
use Rattle.std.specs.Str.{is_utf8}
use Rattle.value_text.specs.Casts.{number_of_bit}
use Rattle.value_text.specs.Printed.{million}
use Rattle.query_plan.specs.declared.expr.Rel.{Rel}
use Rattle.query_plan.specs.declared.expr.Rel.TheVariants.{Eq, Ne, Lt, Le, Gt, Ge}
use Rattle.event_value.specs.declared.value.Value.{Value}
use Rattle.event_value.specs.declared.value.Value.TheVariants.{Big, Fixed, Text, Bit, Moment}

abbrev pub Truth : Type 0
Truth = Option Bool

-- the opposite
unfoldable pub not3 : Truth → Truth
not3 None = None
not3 (Some b) = Some (not b)

-- both: false where one of them is false
unfoldable pub and3 : Truth → Truth → Truth
and3 (Some false) b = Some false
and3 (Some true) b = b
and3 None (Some false) = Some false
and3 None _ = None

-- one of both: true where one of them is true
unfoldable pub or3 : Truth → Truth → Truth
or3 a b = not3 (and3 (not3 a) (not3 b))

abbrev pub is_true : Truth → Bool
is_true (Some b) = b
is_true None = false

-- how texts stand by their bytes, where both are UTF-8
abbrev pub text_standing : List ℕ → List ℕ → Option Ordering
text_standing a b = if is_utf8 a && is_utf8 b then Some (slice_cmp nat_cmp a b) else None

-- how two values of comparable kinds stand; whole and decimal numbers are compared exactly
abbrev pub standing : Value → Value → Option Ordering
standing (Big a) (Big b) = Some (int_cmp a b)
standing (Fixed a) (Fixed b) = Some (int_cmp a b)
standing (Big a) (Fixed b) = Some (int_cmp (a *ℤ pos million) b)
standing (Fixed a) (Big b) = Some (int_cmp a (b *ℤ pos million))
standing (Bit a) (Big b) = Some (int_cmp (number_of_bit a) b)
standing (Big a) (Bit b) = Some (int_cmp a (number_of_bit b))
standing (Bit a) (Bit b) = Some (int_cmp (number_of_bit a) (number_of_bit b))
standing (Text a) (Text b) = text_standing a b
standing (Moment a) (Moment b) = Some (nat_cmp a b)
standing _ _ = None

abbrev pub is_in_relation : Rel → Ordering → Bool
is_in_relation Eq o = is_eq o
is_in_relation Ne o = is_ne o
is_in_relation Lt o = is_lt o
is_in_relation Le o = is_le o
is_in_relation Gt o = is_gt o
is_in_relation Ge o = is_ge o

abbrev pub related : Rel → Option Ordering → Truth
related rel None = None
related rel (Some o) = Some (is_in_relation rel o)

-- two values in a relation; unknown where they don't compare, as with Null
unfoldable pub compared : Rel → Value → Value → Truth
compared rel a b = related rel (standing a b)

-- a truth or one of further equalities
abbrev pub or_equal_to : Truth → Value → List Value → Truth
or_equal_to truth v [] = truth
or_equal_to truth v (w ∷ ws) = or_equal_to (or3 truth (compared Eq v w)) v ws

-- an OR of equalities
unfoldable pub one_of : Value → List Value → Truth
one_of v ws = or_equal_to (Some false) v ws
