use Rattle.std.proofs.Common.{◌≡◌, drop}
use Rattle.query_sources.specs.Known as spec
use Rattle.query_sources.proofs.known.known_named.Given as goal

abbrev pub invariant-loop-source : goal.invariant-loop-source
invariant-loop-source l =
    spec.known_named (drop l.source-index l.known) l.name ≡ spec.known_named l.known l.name
