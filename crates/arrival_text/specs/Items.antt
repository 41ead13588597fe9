-- The item of a record: its values, or the first rule that it breaks (docs/INPUTS, "Records").
use Rattle.std.specs.Prelude.{ℕ, ℤ, pos, List, [], ◌∷◌, codes, Bool, true, false, if◌then◌else◌, Option, Some, None, option_and_then, Result, Ok, Err}
use Rattle.std.specs.Ordering.{int_eq}
use Rattle.tick_time.specs.MomentReading.{moment_of}
use Rattle.value_text.specs.Casts.{cast_value}
use Rattle.event_value.specs.declared.kind.Kind.{Kind}
use Rattle.event_value.specs.declared.kind.Kind.TheVariants as kinds
use Rattle.event_value.specs.declared.record.Item.{Item}
use Rattle.event_value.specs.declared.record.Item.TheVariants.{Good, Bad}
use Rattle.event_value.specs.declared.record.Rule.{Rule}
use Rattle.event_value.specs.declared.record.Rule.TheVariants.{Enqueued, Field}
use Rattle.event_value.specs.declared.value.Value.{Value}
use Rattle.event_value.specs.declared.value.Value.TheVariants.{Null, Bit, Big, Fixed, Text, Moment}

-- the greatest length of a record in bytes
abbrev pub max_record : ℕ
max_record = 65_536

-- the name of the field with a record's enqueue moment
abbrev pub enqueued_name : List ℕ
enqueued_name = codes "EventEnqueuedUtcTime"

-- a record's enqueue moment, where this is the text of that field; 0 where records aren't stamped
abbrev pub enqueue_moment : Bool → Option (List ℕ) → Option ℕ
enqueue_moment stamped text = if stamped then option_and_then moment_of text else Some 0

-- what a cast gave, where it didn't fail
abbrev pub cast_or_field : Value → Result Value Rule
cast_or_field Null = Err Field
cast_or_field (Bit b) = Ok (Bit b)
cast_or_field (Big n) = Ok (Big n)
cast_or_field (Fixed m) = Ok (Fixed m)
cast_or_field (Text t) = Ok (Text t)
cast_or_field (Moment m) = Ok (Moment m)

-- a text as a value of a kind
abbrev pub text_value : Kind → List ℕ → Result Value Rule
text_value kind text = cast_or_field (cast_value kind (Text text))

-- a whole number as a bit: 0 and 1 alone are one
abbrev pub bit_of_number : ℤ → Result Value Rule
bit_of_number n =
    if int_eq n (pos 0) then Ok (Bit false)
    else (if int_eq n (pos 1) then Ok (Bit true) else Err Field)

-- a whole number as a value of a kind
abbrev pub number_value : Kind → ℤ → Result Value Rule
number_value kinds.Big n = Ok (Big n)
number_value kinds.Fixed n = cast_or_field (cast_value kinds.Fixed (Big n))
number_value kinds.Text n = cast_or_field (cast_value kinds.Text (Big n))
number_value kinds.Moment _ = Err Field
number_value kinds.Bit n = bit_of_number n

-- a truth value as a value of a kind
abbrev pub truth_value : Kind → Bool → Result Value Rule
truth_value kinds.Big _ = Err Field
truth_value kinds.Fixed _ = Err Field
truth_value kinds.Text _ = Err Field
truth_value kinds.Moment _ = Err Field
truth_value kinds.Bit b = Ok (Bit b)

-- a value before the others of a record
abbrev pub value_before : Result Value Rule → Result (List Value) Rule → Result (List Value) Rule
value_before (Ok value) (Ok values) = Ok (value ∷ values)
value_before (Ok value) (Err rule) = Err rule
value_before (Err rule) values = Err rule

-- the values of the columns in order, or the rule of the first that has none
abbrev pub values_of : {A : Type 0} → (A → Result Value Rule) → List A → Result (List Value) Rule
values_of value [] = Ok []
values_of value (column ∷ columns) = value_before (value column) (values_of value columns)

-- a record with this enqueue moment and these values: the moment is asked for first
abbrev pub item_of : Option ℕ → Result (List Value) Rule → Item
item_of None _ = Bad Enqueued
item_of (Some moment) (Ok values) = Good moment values
item_of (Some moment) (Err rule) = Bad rule
