-- The cast of a value to a kind: Null where it fails, and where a kind has none to the other.
use Rattle.std.specs.Prelude.{ℕ, Bool, true, false, not, ◌||◌, if◌then◌else◌, ℤ, pos, ◌*ℤ◌, int_div, List, codes, Option, Some, None}
use Rattle.std.specs.Ordering.{int_eq}
use Rattle.tick_time.specs.Unit.{is_name}
use Rattle.tick_time.specs.MomentReading.{moment_of}
use Rattle.tick_time.specs.MomentText.{moment_text}
use Rattle.value_text.specs.Numbers.{whole_value, fixed_value, whole_of_text, fixed_of_text}
use Rattle.value_text.specs.Printed.{million, value_text}
use Rattle.event_value.specs.declared.kind.Kind.{Kind}
use Rattle.event_value.specs.declared.kind.Kind.TheVariants as kinds
use Rattle.event_value.specs.declared.value.Value.{Value}
use Rattle.event_value.specs.declared.value.Value.TheVariants.{Null, Bit, Big, Fixed, Text, Moment}

abbrev pub number_of_bit : Bool → ℤ
number_of_bit b = pos (if b then 1 else 0)

-- to a whole number: a decimal one loses its fraction
unfoldable pub cast_to_whole : Value → Value
cast_to_whole (Bit b) = Big (number_of_bit b)
cast_to_whole (Big n) = Big n
cast_to_whole (Fixed m) = Big (int_div m (pos million))
cast_to_whole (Text t) = whole_of_text t
cast_to_whole _ = Null

-- to a decimal number
unfoldable pub cast_to_fixed : Value → Value
cast_to_fixed (Big n) = fixed_value (n *ℤ pos million)
cast_to_fixed (Fixed m) = Fixed m
cast_to_fixed (Text t) = fixed_of_text t
cast_to_fixed _ = Null

-- the bit that a text spells, without case
abbrev pub bit_of_text : List ℕ → Value
bit_of_text text =
    if is_name (codes "1") text || is_name (codes "true") text then Bit true
    else (if is_name (codes "0") text || is_name (codes "false") text then Bit false else Null)

-- to a bit: of a whole number, whether it isn't 0
unfoldable pub cast_to_bit : Value → Value
cast_to_bit (Bit b) = Bit b
cast_to_bit (Big n) = Bit (not (int_eq n (pos 0)))
cast_to_bit (Text t) = bit_of_text t
cast_to_bit _ = Null

abbrev pub moment_or_null : Option ℕ → Value
moment_or_null None = Null
moment_or_null (Some m) = Moment m

-- to a moment
unfoldable pub cast_to_moment : Value → Value
cast_to_moment (Moment m) = Moment m
cast_to_moment (Text t) = moment_or_null (moment_of t)
cast_to_moment _ = Null

-- to a text: the printed form without quotes
unfoldable pub cast_to_text : Value → Value
cast_to_text Null = Null
cast_to_text (Text t) = Text t
cast_to_text (Moment m) = Text (moment_text m)
cast_to_text value = Text (value_text value)

unfoldable pub cast_value : Kind → Value → Value
cast_value kinds.Big value = cast_to_whole value
cast_value kinds.Fixed value = cast_to_fixed value
cast_value kinds.Text value = cast_to_text value
cast_value kinds.Moment value = cast_to_moment value
cast_value kinds.Bit value = cast_to_bit value
