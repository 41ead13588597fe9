-- A record whose columns are looked up by their places, for private clauses.
use Rattle.std.specs.Prelude.{◌==◌, ◌&&◌, List, length, map, sum_by, nat_lt, Bool, if◌then◌else◌, ℕ, Option, option_and_then, Result}
use Rattle.std.specs.List.{list_all}
use Rattle.std.specs.Str.{is_utf8}
use Rattle.csv.specs.Records.{field_at}
use Rattle.event_value.specs.declared.kind.Column.{Column}
use Rattle.event_value.specs.declared.record.Item.{Item}
use Rattle.event_value.specs.declared.record.Item.TheVariants.{Bad}
use Rattle.event_value.specs.declared.record.Rule.{Rule}
use Rattle.event_value.specs.declared.record.Rule.TheVariants.{Syntax, Long}
use Rattle.event_value.specs.declared.value.Value.{Value}
use Rattle.arrival_text.specs.Items.{max_record, enqueued_name, enqueue_moment, values_of, item_of}
use Rattle.arrival_text.specs.CsvItems.{Fields, place_of, place_of_path, value_or_null}
use Rattle.arrival_text.specs.declared.csv_places.Place.{Place}
use Rattle.arrival_text.specs.declared.csv_places.Places.{Places}

-- the place of a column
abbrev pub column_place : Fields → Column → Place
column_place header column = record { kind = column.kind; at = place_of_path column.path header }

-- the places that a header gives
abbrev pub places_in : List Column → Bool → Fields → Places
places_in columns stamped header = record {
  width = length header;
  stamped = stamped;
  enqueued = place_of enqueued_name header;
  columns = map (column_place header) columns;
}

-- the value at a place of a record
abbrev pub value_at : Fields → Place → Result Value Rule
value_at fields place = value_or_null place.kind (option_and_then (field_at fields) place.at)

-- the enqueue moment of a record whose places are these
abbrev pub moment_at : Places → Fields → Option ℕ
moment_at places fields =
    enqueue_moment places.stamped (option_and_then (field_at fields) places.enqueued)

-- the item of a record whose columns stand at these places
abbrev pub item_at : Places → Fields → Item
item_at places fields =
    if nat_lt max_record (sum_by length fields) then Bad Long
    else (if (length fields == places.width) && list_all is_utf8 fields
    then item_of (moment_at places fields) (values_of (value_at fields) places.columns)
    else Bad Syntax)
