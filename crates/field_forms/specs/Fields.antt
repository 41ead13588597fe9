-- Bits, texts, options and lists as bytes (docs/FORMATS, "Fields").
--
-- A bit:
--   OFFSET  SIZE  MEANING
--        0     1  0 or 1
--
-- A text, and any other run of bytes:
--   OFFSET  SIZE  MEANING
--        0     4  n, the number of its bytes
--        4     n  the bytes
--
-- An option:
--   OFFSET  SIZE  MEANING
--        0     1  0 where it holds nothing, 1 where it holds a value
--        1     .  the value, where it holds one
--
-- A list:
--   OFFSET  SIZE  MEANING
--        0     4  n, the number of its items
--        4     .  the n items, one behind the other
use Rattle.std.specs.Prelude.{ℕ, Bool, true, false, nat_le, if◌then◌else◌, List, ◌++◌, length, take, drop, Option, Some, None}
use Rattle.field_forms.specs.Forms.{Form, Reading, alternative, constant_form, list_form, no_alternative, tagged_form, variant_form}
use Rattle.field_forms.specs.Numbers.{u32_form}

-- the byte of a bit
abbrev pub bit_number : Bool → ℕ
bit_number false = 0
bit_number true = 1

-- whether a bit is 0
abbrev pub is_no : Bool → Bool
is_no false = true
is_no true = false

-- whether a bit is 1
abbrev pub is_yes : Bool → Bool
is_yes b = b

-- the bit that a byte tells
abbrev pub bit_body : ℕ → Form Bool
bit_body =
    alternative 0 (constant_form false is_no)
    (alternative 1 (constant_form true is_yes) no_alternative)

-- a bit
abbrev pub bit_form : Form Bool
bit_form = tagged_form bit_number bit_body

-- as many bytes as a number says, where there are as many
abbrev pub part_reading : Reading ℕ → Reading (List ℕ)
part_reading None = None
part_reading (Some (n, rest)) =
    if nat_le n (length rest) then Some (take n rest, drop n rest) else None

-- a text
abbrev pub text_form : Form (List ℕ)
text_form = record {
  fits = λ t. u32_form.fits (length t);
  spelling = λ t. u32_form.spelling (length t) ++ t;
  reading = λ bytes. part_reading (u32_form.reading bytes);
}

-- a list of items of a form
abbrev pub items_form : {V : Type 0} → Form V → Form (List V)
items_form f = list_form u32_form f

-- the first byte of an option
abbrev pub option_number : {V : Type 0} → Option V → ℕ
option_number None = 0
option_number (Some v) = 1

-- whether an option holds nothing
abbrev pub is_none : {V : Type 0} → Option V → Bool
is_none None = true
is_none (Some v) = false

-- an option as it is
abbrev pub itself : {V : Type 0} → Option V → Option V
itself o = o

-- what stands behind a first byte
abbrev pub option_body : {V : Type 0} → Form V → ℕ → Form (Option V)
option_body f =
    alternative 0 (constant_form None is_none)
    (alternative 1 (variant_form Some itself f) no_alternative)

-- an option
abbrev pub option_form : {V : Type 0} → Form V → Form (Option V)
option_form f = tagged_form option_number (option_body f)
