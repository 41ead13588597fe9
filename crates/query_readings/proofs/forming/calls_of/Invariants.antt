use Rattle.std.proofs.Common.{◌≡◌, ◌++◌, drop}
use Rattle.query_readings.specs.Reading as spec
use Rattle.query_readings.proofs.forming.calls_of.Given as goal

abbrev pub invariant-loop-part : goal.invariant-loop-part
invariant-loop-part l =
    l.calls ++ spec.calls_of (drop l.part-index l.parts) ≡ spec.calls_of l.parts
