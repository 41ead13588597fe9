-- The items of a file of CSV, by the reading of csv (docs/INPUTS, "CSV").
use Rattle.std.specs.Prelude.{ℕ, ◌==◌, ◌&&◌, List, [], ◌∷◌, length, map, sum_by, nat_lt, bytes_eq, Bool, if◌then◌else◌, Option, Some, None, option_and_then, Result, Ok}
use Rattle.std.specs.List.{list_all, position_from}
use Rattle.std.specs.Str.{is_utf8}
use Rattle.csv.specs.Reading.{default_config, records, strip_bom}
use Rattle.csv.specs.Records.{field_at}
use Rattle.csv.specs.declared.parser.Config.{Config}
use Rattle.event_value.specs.declared.kind.Column.{Column}
use Rattle.event_value.specs.declared.kind.Kind.{Kind}
use Rattle.event_value.specs.declared.kind.Kind.TheVariants as kinds
use Rattle.event_value.specs.declared.record.Item.{Item}
use Rattle.event_value.specs.declared.record.Item.TheVariants.{Bad}
use Rattle.event_value.specs.declared.record.Rule.{Rule}
use Rattle.event_value.specs.declared.record.Rule.TheVariants.{Syntax, Long}
use Rattle.event_value.specs.declared.value.Value.{Value}
use Rattle.event_value.specs.declared.value.Value.TheVariants.{Null, Text}
use Rattle.arrival_text.specs.Items.{max_record, enqueued_name, enqueue_moment, text_value, values_of, item_of}

-- a record: the bytes of its fields
abbrev pub Fields : Type 0
Fields = List (List ℕ)

-- fields between delimiters, in double quotes where they need them; CR, LF or both end a record
abbrev pub config : ℕ → Config
config delimiter = record default_config { delimiter = delimiter }

-- the records of a text, without the mark that one in UTF-8 may begin with
abbrev pub csv_records : ℕ → List ℕ → List Fields
csv_records delimiter bytes = records (config delimiter) (strip_bom bytes)

-- the place of a name in the header: of several the first
abbrev pub place_of : List ℕ → Fields → Option ℕ
place_of name header = position_from (λ field. bytes_eq field name) 0 header

-- the place of a column: a path of one name is that name's, another is absent
abbrev pub place_of_path : List (List ℕ) → Fields → Option ℕ
place_of_path [] header = None
place_of_path (name ∷ []) header = place_of name header
place_of_path (_ ∷ _ ∷ _) header = None

-- a field that is empty: NULL, or for texts the empty text
abbrev pub empty_value : Kind → Value
empty_value kinds.Big = Null
empty_value kinds.Fixed = Null
empty_value kinds.Text = Text []
empty_value kinds.Moment = Null
empty_value kinds.Bit = Null

-- a field as a value of a kind
abbrev pub field_value : Kind → List ℕ → Result Value Rule
field_value kind [] = Ok (empty_value kind)
field_value kind (b ∷ bytes) = text_value kind (b ∷ bytes)

-- what is absent is NULL
abbrev pub value_or_null : Kind → Option (List ℕ) → Result Value Rule
value_or_null kind (Some field) = field_value kind field
value_or_null kind None = Ok Null

-- the value of a column in a record under a header
abbrev pub column_value : Fields → Fields → Column → Result Value Rule
column_value header fields column =
    value_or_null column.kind (option_and_then (field_at fields) (place_of_path column.path header))

-- the enqueue moment of a record under a header
abbrev pub moment_in : Bool → Fields → Fields → Option ℕ
moment_in stamped header fields =
    enqueue_moment stamped (option_and_then (field_at fields) (place_of enqueued_name header))

-- a record has as many fields as the header, all in UTF-8
abbrev pub fits_header : Fields → Fields → Bool
fits_header header fields = (length fields == length header) && list_all is_utf8 fields

-- the item of a record: the rules in order are Long, Syntax, Enqueued and those of the columns
abbrev pub record_item : List Column → Bool → Fields → Fields → Item
record_item columns stamped header fields =
    if nat_lt max_record (sum_by length fields) then Bad Long
    else (if fits_header header fields
    then item_of (moment_in stamped header fields) (values_of (column_value header fields) columns)
    else Bad Syntax)

-- the items of a list of records, of which the first is the header and no item
abbrev pub items_under_header : List Column → Bool → List Fields → List Item
items_under_header columns stamped [] = []
items_under_header columns stamped (header ∷ records) =
    map (record_item columns stamped header) records

-- the items of a file
abbrev pub csv_items_of : List Column → Bool → ℕ → List ℕ → List Item
csv_items_of columns stamped delimiter bytes =
    items_under_header columns stamped (csv_records delimiter bytes)
