-- The value of a column, where there is one, for private clauses.
use Rattle.std.specs.Prelude.{Option, Some, None, if◌then◌else◌}
use Rattle.event_value.specs.declared.value.Value.{Value}
use Rattle.row_groups.specs.Aggregates.{is_value}

-- the value, where it isn't Null
abbrev pub known_value : Value → Option Value
known_value value = if is_value value then Some value else None
