use Rattle.std.proofs.Common.{◌≡◌, drop}
use Rattle.query_sources.specs.Known as spec
use Rattle.query_sources.proofs.known.streams_of.Given as goal

abbrev pub invariant-loop-stream : goal.invariant-loop-stream
invariant-loop-stream l =
    spec.streams_from l.names l.found (drop l.stream-index l.streams) ≡
    spec.streams_from l.names l.initial.found l.streams
