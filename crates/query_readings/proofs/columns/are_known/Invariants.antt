use Rattle.std.proofs.Common.{◌≡◌, drop}
use Rattle.query_readings.specs.Reading as spec
use Rattle.query_readings.proofs.columns.are_known.Given as goal

abbrev pub invariant-loop-source : goal.invariant-loop-source
invariant-loop-source l =
    spec.are_known (drop l.source-index l.sources) ≡ spec.are_known l.sources
