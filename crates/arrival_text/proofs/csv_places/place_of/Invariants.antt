use Rattle.std.proofs.Common.{◌≡◌, drop, length}
use Rattle.csv.specs.Records.{fields_of}
use Rattle.arrival_text.specs.CsvItems.{place_of}
use Rattle.arrival_text.proofs.FieldLemmas.{place_from}
use Rattle.arrival_text.proofs.csv_places.place_of.Given as goal

-- the name stands first among the other fields
abbrev pub invariant-loop-field : goal.invariant-loop-field
invariant-loop-field l = place_from l.name (fields_of l.header) l.at ≡ place_of l.name (fields_of l.header)

abbrev pub decreases-loop-field : goal.decreases-loop-field
decreases-loop-field l = length (drop l.at (fields_of l.header))
