use Rattle.std.proofs.Common.{◌≡◌, ◌++◌, length, map}
use Rattle.arrival_text.specs.CsvPlaces.{item_at}
use Rattle.arrival_text.specs.CsvReading.{IsReading, records_left}
use Rattle.arrival_text.proofs.csv_records.items_at.Given as goal

-- the items so far and those of the records left are those of all
abbrev pub invariant-records : goal.invariant-records
invariant-records l = record {
  reading : IsReading l.reader;
  items : l.items ++ map (item_at l.places) (records_left l.reader) ≡ map (item_at l.places) (records_left l.initial.reader);
}

abbrev pub decreases-records : goal.decreases-records
decreases-records l = length (records_left l.reader)
