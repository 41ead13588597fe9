use Rattle.std.proofs.Common.{◌≡◌, take}
use Rattle.query_windows.specs.Aggregates as spec
use Rattle.query_windows.proofs.aggregates.part_exprs.Given as goal

abbrev pub invariant-loop-part : goal.invariant-loop-part
invariant-loop-part l =
    l.exprs ≡ spec.part_exprs (take l.part-index l.parts)
