use Rattle.std.proofs.Common.{◌≡◌, drop}
use Rattle.csv.specs.Records.{fields_of}
use Rattle.arrival_text.specs.Items.{values_of}
use Rattle.arrival_text.specs.CsvPlaces.{value_at}
use Rattle.arrival_text.proofs.ValuesLemmas.{values_behind}
use Rattle.arrival_text.proofs.csv_fields.values_at.Given as goal

-- the values so far and those of the other places are those of the record
abbrev pub invariant-loop-place : goal.invariant-loop-place
invariant-loop-place l =
    values_behind l.values (values_of (value_at (fields_of l.fields)) (drop l.place-index l.places)) ≡ values_of (value_at (fields_of l.fields)) l.places
