-- The items of a file of JSON lines, by the reading of serde_json (docs/INPUTS, "JSON lines").
use Rattle.std.specs.Prelude.{ℕ, ℤ, List, [], ◌∷◌, length, nat_lt, Bool, if◌then◌else◌, Option, Some, None, is_some, option_and_then, Result, Ok, Err}
use Rattle.std.specs.List.{flat_map}
use Rattle.std.specs.Str.{is_utf8}
use Rattle.serde_json.specs.Data.{Data, null, boolean, number, string, array, object}
use Rattle.serde_json.specs.Read.{read}
use Rattle.serde_json.specs.Find.{get, as_i64, as_object, as_str}
use Rattle.event_value.specs.declared.kind.Column.{Column}
use Rattle.event_value.specs.declared.kind.Kind.{Kind}
use Rattle.event_value.specs.declared.record.Item.{Item}
use Rattle.event_value.specs.declared.record.Item.TheVariants.{Bad}
use Rattle.event_value.specs.declared.record.Rule.{Rule}
use Rattle.event_value.specs.declared.record.Rule.TheVariants.{Syntax, Number, Field, Long}
use Rattle.event_value.specs.declared.value.Value.{Value}
use Rattle.event_value.specs.declared.value.Value.TheVariants.{Null}
use Rattle.arrival_text.specs.Items.{max_record, enqueued_name, enqueue_moment, text_value, number_value, truth_value, values_of, item_of}
use Rattle.arrival_text.specs.Lines.{lines, is_line_blank, without_mark}

-- what a line is as JSON, if it is any
abbrev pub json_of : List ℕ → Option Data
json_of line = if is_utf8 line then read line else None

-- the member of an object under a name; a name that isn't UTF-8 stands for none
abbrev pub member_of : List ℕ → Data → Option Data
member_of name json = if is_utf8 name then get name json else None

-- what a path of names leads to, through nested objects alone
abbrev pub at_path : List (List ℕ) → Data → Option Data
at_path [] json = Some json
at_path (name ∷ path) json = option_and_then (at_path path) (member_of name json)

-- a number as a value of a kind: one that isn't a whole number of 64 bits breaks a rule of its own
abbrev pub whole_value : Kind → Option ℤ → Result Value Rule
whole_value kind (Some n) = number_value kind n
whole_value kind None = Err Number

-- what stands in a record as a value of a kind
abbrev pub json_value : Kind → Data → Result Value Rule
json_value kind null = Ok Null
json_value kind (boolean b) = truth_value kind b
json_value kind (number n) = whole_value kind (as_i64 n)
json_value kind (string text) = text_value kind text
json_value kind (array _) = Err Field
json_value kind (object _) = Err Field

-- what is absent is NULL
abbrev pub value_or_null : Kind → Option Data → Result Value Rule
value_or_null kind (Some json) = json_value kind json
value_or_null kind None = Ok Null

-- the value of a column in a record
abbrev pub column_value : Data → Column → Result Value Rule
column_value json column = value_or_null column.kind (at_path column.path json)

-- the enqueue moment of a record: the text at its top that names one
abbrev pub moment_in : Bool → Data → Option ℕ
moment_in stamped json = enqueue_moment stamped (option_and_then as_str (get enqueued_name json))

-- a record is an object
abbrev pub record_item : List Column → Bool → Option Data → Item
record_item columns stamped (Some json) =
    if is_some (as_object json)
    then item_of (moment_in stamped json) (values_of (column_value json) columns) else Bad Syntax
record_item columns stamped None = Bad Syntax

-- the item of a line: the rules in order are Long, Syntax, Enqueued and those of the columns
abbrev pub line_item : List Column → Bool → List ℕ → Item
line_item columns stamped line =
    if nat_lt max_record (length line) then Bad Long else record_item columns stamped (json_of line)

-- a blank line is no item
abbrev pub line_items : List Column → Bool → List ℕ → List Item
line_items columns stamped line =
    if is_line_blank line then [] else line_item columns stamped line ∷ []

-- the items of a file
abbrev pub json_items_of : List Column → Bool → List ℕ → List Item
json_items_of columns stamped bytes =
    flat_map (line_items columns stamped) (lines (without_mark bytes))
