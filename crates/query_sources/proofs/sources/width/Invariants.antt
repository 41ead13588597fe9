use Rattle.std.proofs.Common.{◌≡◌, drop}
use Rattle.query_sources.specs.Sources as spec
use Rattle.query_sources.proofs.sources.width.Given as goal

abbrev pub invariant-loop-source : goal.invariant-loop-source
invariant-loop-source l =
    spec.width_from l.width (drop l.source-index l.sources) ≡ spec.width l.sources
