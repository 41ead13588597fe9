use Rattle.std.proofs.Common.{◌≡◌, drop}
use Rattle.query_sources.specs.Known as spec
use Rattle.query_sources.proofs.known.references_of.Given as goal

abbrev pub invariant-loop-place : goal.invariant-loop-place
invariant-loop-place l =
    spec.references_from l.names l.place l.found (drop l.place l.references) ≡
    spec.references_from l.names 0 l.initial.found l.references
