-- The total order of values.
use Rattle.std.specs.Prelude.{ℕ}
use Rattle.std.specs.declared.cmp.Ordering.{Ordering}
use Rattle.std.specs.Ordering.{nat_cmp, bool_cmp, int_cmp}
use Rattle.std.specs.Cmp.Lexicographic.{slice_cmp}
use Rattle.event_value.specs.declared.value.Value.{Value}
use Rattle.event_value.specs.declared.value.Value.TheVariants.{Null, Bit, Big, Fixed, Text, Moment}

-- the place of a kind among the kinds
abbrev pub kind_rank : Value → ℕ
kind_rank Null = 0
kind_rank (Bit b) = 1
kind_rank (Big n) = 2
kind_rank (Fixed m) = 3
kind_rank (Text t) = 4
kind_rank (Moment m) = 5

-- values of one kind by the value, texts by their bytes; others by the kind
abbrev pub value_order : Value → Value → Ordering
value_order (Bit a) (Bit b) = bool_cmp a b
value_order (Big a) (Big b) = int_cmp a b
value_order (Fixed a) (Fixed b) = int_cmp a b
value_order (Text a) (Text b) = slice_cmp nat_cmp a b
value_order (Moment a) (Moment b) = nat_cmp a b
value_order a b = nat_cmp (kind_rank a) (kind_rank b)
