use Rattle.std.proofs.Common.{◌≡◌, ◌++◌, drop}
use Rattle.query_readings.specs.Reading as spec
use Rattle.query_readings.proofs.outcomes.faults_of.Given as goal

abbrev pub invariant-loop-part : goal.invariant-loop-part
invariant-loop-part l =
    l.faults ++ spec.faults_of l.side (drop l.part-index l.parts) ≡ spec.faults_of l.side l.parts
