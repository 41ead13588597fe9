use Rattle.std.proofs.Common.{◌≡◌, drop}
use Rattle.query_readings.specs.Reading as spec
use Rattle.query_readings.proofs.columns.qualified_in.Given as goal

abbrev pub invariant-loop-source : goal.invariant-loop-source
invariant-loop-source l =
    spec.qualified_in (drop l.source-index l.sources) l.name l.column ≡
    spec.qualified_in l.sources l.name l.column
