use Rattle.std.proofs.Common.{◌≡◌, drop, length, sum_by}
use Rattle.std.specs.Prelude.{nat_lt}
use Rattle.csv.specs.Records.{fields_of}
use Rattle.arrival_text.specs.Items.{max_record}
use Rattle.arrival_text.proofs.csv_fields.is_long.Given as goal

-- the other fields exceed the room that is left where all exceed that of a record
abbrev pub invariant-loop-field : goal.invariant-loop-field
invariant-loop-field l = record {
  row : l.field-iterator.row.now ≡ l.fields;
  rest : nat_lt l.room (sum_by length (drop l.field-iterator.at (fields_of l.fields))) ≡ nat_lt max_record (sum_by length (fields_of l.fields));
}
