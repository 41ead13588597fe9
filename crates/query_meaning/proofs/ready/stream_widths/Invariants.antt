use Rattle.std.proofs.Common.{◌≡◌, map, take}
use Rattle.query_meaning.specs.Ready as spec
use Rattle.query_meaning.proofs.ready.stream_widths.Given as goal

abbrev pub invariant-loop-used : goal.invariant-loop-used
invariant-loop-used l =
    l.widths ≡ map (spec.stream_width l.inputs) (take l.used-index l.uses)
