use Rattle.std.proofs.Common.{◌∙◌, ◌≡◌, ap, length, arith}
use Rattle.csv.specs.Records.{fields_of}
use Rattle.arrival_text.specs.CsvItems.{csv_items_of}
use Rattle.arrival_text.specs.CsvPlaces.{places_in}
use Rattle.arrival_text.specs.CsvReading.{records_left}
use Rattle.arrival_text.proofs.CsvItemsLemmas.{items-under, few-items}
use Rattle.arrival_text.proofs.csv_records.csv_items.Goals as goal

pub returns-clause-items : goal.returns-clause-items
returns-clause-items c =
    let header = fields_of c.next_record.new.fields in
    items-under c.args.columns.now c.args.stamped c.args.delimiter c.args.bytes.now (records_left c.reader_of-reader.result) (records_left c.next_record.new.reader)
    header c.in_ok-places.places c.in_ok-items.items c.reader_of-reader.ensures.records (rw c.if-not-branch.false at c.in_ok-next_record.ensures.records)
    (c.in_ok-places.ensures ∙ ap (λ columns. places_in columns c.args.stamped header) c.items.ensures) c.in_ok-items.ensures

pub returns-clause-few : goal.returns-clause-few
returns-clause-few c =
    let few = few-items c.args.columns.now c.args.stamped c.args.delimiter c.args.bytes.now in
    let same : length c.in_ok-items.items ≡ length (csv_items_of c.args.columns.now c.args.stamped c.args.delimiter c.args.bytes.now) = ap length (returns-clause-items c) in
    omega arith
