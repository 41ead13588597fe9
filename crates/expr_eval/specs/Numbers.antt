-- Arithmetic: what doesn't fit 64 bits, and a quotient by zero, is Null.
use Rattle.std.specs.Prelude.{ℤ, pos, ◌+ℤ◌, ◌-ℤ◌, ◌*ℤ◌, neg_ℤ, int_div, int_rem, Option, Some, None, ◌≤◌, ◌^◌, unsigned_abs, if◌then◌else◌}
use Rattle.std.specs.Ordering.{int_eq}
use Rattle.value_text.specs.Numbers.{whole_value, fixed_value}
use Rattle.value_text.specs.Printed.{million}
use Rattle.query_plan.specs.declared.expr.Op.{Op}
use Rattle.query_plan.specs.declared.expr.Op.TheVariants.{Add, Sub, Mul, Div, Rem}
use Rattle.event_value.specs.declared.value.Value.{Value}
use Rattle.event_value.specs.declared.value.Value.TheVariants.{Null, Big, Fixed}

-- the quotient toward zero, none by zero
abbrev pub ratio : ℤ → ℤ → Option ℤ
ratio a b = if int_eq b (pos 0) then None else Some (int_div a b)

-- what is left of the dividend, with its sign, none by zero
abbrev pub remainder : ℤ → ℤ → Option ℤ
remainder a b = if int_eq b (pos 0) then None else Some (int_rem a b)

abbrev pub known : (ℤ → Value) → Option ℤ → Value
known make None = Null
known make (Some n) = make n

-- an operation on two whole numbers
abbrev pub on_wholes : Op → ℤ → ℤ → Value
on_wholes Add a b = whole_value (a +ℤ b)
on_wholes Sub a b = whole_value (a -ℤ b)
on_wholes Mul a b = whole_value (a *ℤ b)
on_wholes Div a b = known whole_value (ratio a b)
on_wholes Rem a b = known whole_value (remainder a b)
on_wholes _ a b = Null

-- an operation on two numbers of millionths
abbrev pub on_millionths : Op → ℤ → ℤ → Value
on_millionths Add a b = fixed_value (a +ℤ b)
on_millionths Sub a b = fixed_value (a -ℤ b)
on_millionths Mul a b = known fixed_value (ratio (a *ℤ b) (pos million))
on_millionths Div a b = known fixed_value (ratio (a *ℤ pos million) b)
on_millionths _ a b = Null

-- a number as a decimal one
abbrev pub to_fixed : Value → Value
to_fixed (Big n) = fixed_value (n *ℤ pos million)
to_fixed (Fixed m) = Fixed m
to_fixed _ = Null

abbrev pub on_fixed_values : Op → Value → Value → Value
on_fixed_values op (Fixed a) (Fixed b) = on_millionths op a b
on_fixed_values op _ _ = Null

-- an operation on two numbers: where one of them is decimal, the other becomes decimal
unfoldable pub arithmetic : Op → Value → Value → Value
arithmetic op (Big a) (Big b) = on_wholes op a b
arithmetic op left right = on_fixed_values op (to_fixed left) (to_fixed right)

-- a number with the other sign
unfoldable pub negated : Value → Value
negated (Big n) = whole_value (neg_ℤ n)
negated (Fixed m) = fixed_value (neg_ℤ m)
negated _ = Null

-- a number without its sign
unfoldable pub absolute : Value → Value
absolute (Big n) = whole_value (pos (unsigned_abs n))
absolute (Fixed m) = fixed_value (pos (unsigned_abs m))
absolute _ = Null

-- for private clauses: a product, or a number in millionths
abbrev pub IsWide : ℤ → Type 0
IsWide n = unsigned_abs n ≤ 2 ^ 126
