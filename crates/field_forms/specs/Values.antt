-- Values as bytes (docs/FORMATS, "Values").
--
--   OFFSET  SIZE  MEANING
--        0     1  the kind: 0 NULL, 1 bit, 2 bigint, 3 decimal, 4 text, 5 moment
--        1     .  NULL: nothing. A bit: a bit. A bigint: an i64. A decimal: an i64 of millionths.
--                 A text: a text. A moment: a moment.
use Rattle.std.specs.Prelude.{ℕ, Bool, true, false, ℤ, List, Option, Some, None}
use Rattle.event_value.specs.Order.{kind_rank}
use Rattle.event_value.specs.declared.value.Value.{Value}
use Rattle.event_value.specs.declared.value.Value.TheVariants.{Null, Bit, Big, Fixed, Text, Moment}
use Rattle.field_forms.specs.Forms.{Form, alternative, constant_form, list_form, no_alternative, tagged_form, variant_form}
use Rattle.field_forms.specs.Fields.{bit_form, text_form}
use Rattle.field_forms.specs.Numbers.{i64_form, moment_form, u32_form}

-- whether a value is NULL
abbrev pub is_null : Value → Bool
is_null Null = true
is_null value = false

-- the bit of a bit
abbrev pub bit_of : Value → Option Bool
bit_of (Bit b) = Some b
bit_of value = None

-- the number of a bigint
abbrev pub big_of : Value → Option ℤ
big_of (Big n) = Some n
big_of value = None

-- the millionths of a decimal
abbrev pub fixed_of : Value → Option ℤ
fixed_of (Fixed m) = Some m
fixed_of value = None

-- the bytes of a text
abbrev pub text_of : Value → Option (List ℕ)
text_of (Text t) = Some t
text_of value = None

-- the ticks of a moment
abbrev pub moment_of : Value → Option ℕ
moment_of (Moment m) = Some m
moment_of value = None

-- what stands behind the byte of a kind
abbrev pub value_body : ℕ → Form Value
value_body =
    alternative 0 (constant_form Null is_null)
    (alternative 1 (variant_form Bit bit_of bit_form)
    (alternative 2 (variant_form Big big_of i64_form)
    (alternative 3 (variant_form Fixed fixed_of i64_form)
    (alternative 4 (variant_form Text text_of text_form)
    (alternative 5 (variant_form Moment moment_of moment_form) no_alternative)))))

-- a value
abbrev pub value_form : Form Value
value_form = tagged_form kind_rank value_body

-- a list of values
abbrev pub values_form : Form (List Value)
values_form = list_form u32_form value_form
