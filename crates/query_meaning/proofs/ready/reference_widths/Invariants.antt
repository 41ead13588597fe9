use Rattle.std.proofs.Common.{◌≡◌, map, take}
use Rattle.query_meaning.specs.Ready as spec
use Rattle.query_meaning.proofs.ready.reference_widths.Given as goal

abbrev pub invariant-loop-number : goal.invariant-loop-number
invariant-loop-number l =
    l.widths ≡ map (spec.reference_width l.inputs) (take l.number-index l.numbers)
