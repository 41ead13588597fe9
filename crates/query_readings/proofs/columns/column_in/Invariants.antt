use Rattle.std.proofs.Common.{◌≡◌, drop}
use Rattle.query_readings.specs.Reading as spec
use Rattle.query_readings.proofs.columns.column_in.Given as goal

abbrev pub invariant-loop-column : goal.invariant-loop-column
invariant-loop-column l =
    spec.column_in (drop l.column-index l.columns) l.name ≡ spec.column_in l.columns l.name
