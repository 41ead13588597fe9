-- The value of an operation on its operands: Null for another number of them than it takes, and for values of other kinds.
use Rattle.std.specs.Prelude.{Bool, true, false, if◌then◌else◌, List, [], ◌∷◌}
use Rattle.query_plan.specs.declared.expr.Op.{Op}
use Rattle.query_plan.specs.declared.expr.Op.TheVariants.{Add, Sub, Mul, Div, Rem, Neg, Abs, DateAdd, DateDiff, DatePart, Len, Lower, Upper, Substring, Concat, Coalesce}
use Rattle.event_value.specs.declared.value.Value.{Value}
use Rattle.event_value.specs.declared.value.Value.TheVariants.{Null}
use Rattle.expr_eval.specs.Dates.{later, boundaries, field}
use Rattle.expr_eval.specs.Numbers.{arithmetic, negated, absolute}
use Rattle.expr_eval.specs.Texts.{character_count, lower, upper, substring, joined}

abbrev pub is_null : Value → Bool
is_null Null = true
is_null _ = false

-- the first value that isn't Null
abbrev pub first_known : List Value → Value
first_known [] = Null
first_known (v ∷ vs) = if is_null v then first_known vs else v

abbrev pub of_one : Op → Value → Value
of_one Neg v = negated v
of_one Abs v = absolute v
of_one (DatePart part) v = field part v
of_one Len v = character_count v
of_one Lower v = lower v
of_one Upper v = upper v
of_one _ v = Null

abbrev pub of_two : Op → Value → Value → Value
of_two Add v w = arithmetic Add v w
of_two Sub v w = arithmetic Sub v w
of_two Mul v w = arithmetic Mul v w
of_two Div v w = arithmetic Div v w
of_two Rem v w = arithmetic Rem v w
of_two (DateAdd part) v w = later part v w
of_two (DateDiff part) v w = boundaries part v w
of_two _ v w = Null

abbrev pub of_three : Op → Value → Value → Value → Value
of_three Substring t from count = substring t from count
of_three _ t from count = Null

abbrev pub of_operands : Op → List Value → Value
of_operands op (v ∷ []) = of_one op v
of_operands op (v ∷ w ∷ []) = of_two op v w
of_operands op (t ∷ from ∷ count ∷ []) = of_three op t from count
of_operands op _ = Null

unfoldable pub applied : Op → List Value → Value
applied Coalesce vs = first_known vs
applied Concat vs = joined vs
applied op vs = of_operands op vs
