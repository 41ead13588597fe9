use Rattle.csv.specs.Records.{fields_of}
use Rattle.arrival_text.proofs.CsvLemmas.{read_takes_first}
use Rattle.arrival_text.proofs.csv_reading.next_record.Goals as goal

pub returns-clause-reading : goal.returns-clause-reading
returns-clause-reading c =
    (read_takes_first c.args.reader.now c.read_byte_record.new.self c.in-Ok.found (fields_of c.read_byte_record.new.row) c.requires c.in-Ok.ensures.ready c.in-Ok.ensures.reads).0

pub returns-clause-records : goal.returns-clause-records
returns-clause-records c =
    (read_takes_first c.args.reader.now c.read_byte_record.new.self c.in-Ok.found (fields_of c.read_byte_record.new.row) c.requires c.in-Ok.ensures.ready c.in-Ok.ensures.reads).1
