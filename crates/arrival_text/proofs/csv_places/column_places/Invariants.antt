use Rattle.std.proofs.Common.{◌≡◌, take, map}
use Rattle.csv.specs.Records.{fields_of}
use Rattle.arrival_text.specs.CsvPlaces.{column_place}
use Rattle.arrival_text.proofs.csv_places.column_places.Given as goal

abbrev pub invariant-loop-column : goal.invariant-loop-column
invariant-loop-column l = l.places ≡ map (column_place (fields_of l.header)) (take l.column-index l.columns)
