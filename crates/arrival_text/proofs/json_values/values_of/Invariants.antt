use Rattle.std.proofs.Common.{◌≡◌, drop}
use Rattle.serde_json.specs.View.{view}
use Rattle.arrival_text.specs.Items.{values_of}
use Rattle.arrival_text.specs.JsonItems.{column_value}
use Rattle.arrival_text.proofs.ValuesLemmas.{values_behind}
use Rattle.arrival_text.proofs.json_values.values_of.Given as goal

-- the values so far and those of the other columns are those of the record
abbrev pub invariant-loop-column : goal.invariant-loop-column
invariant-loop-column l =
    values_behind l.values (values_of (column_value (view l.json)) (drop l.column-index l.columns)) ≡ values_of (column_value (view l.json)) l.columns
