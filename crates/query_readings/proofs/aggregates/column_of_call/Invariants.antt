use Rattle.std.proofs.Common.{◌≡◌, drop}
use Rattle.query_readings.specs.Reading as spec
use Rattle.query_readings.proofs.aggregates.column_of_call.Given as goal

abbrev pub invariant-loop-column : goal.invariant-loop-column
invariant-loop-column l =
    spec.column_of_call (drop l.column-index l.columns) l.place ≡
    spec.column_of_call l.columns l.place
