use Rattle.std.proofs.Common.{◌≡◌, drop}
use Rattle.query_readings.specs.Reading as spec
use Rattle.query_readings.specs.declared.columns.Found.TheVariants.{Nowhere}
use Rattle.query_readings.proofs.columns.found_in.Given as goal

abbrev pub invariant-loop-source : goal.invariant-loop-source
invariant-loop-source l =
    spec.found_from l.found (drop l.source-index l.sources) l.name ≡
    spec.found_from Nowhere l.sources l.name
