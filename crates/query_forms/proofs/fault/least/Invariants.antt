use Rattle.std.proofs.Common.{◌≡◌, drop}
use Rattle.query_forms.specs.Faults as spec
use Rattle.query_forms.proofs.fault.least.Given as goal

abbrev pub invariant-loop-fault : goal.invariant-loop-fault
invariant-loop-fault l =
    spec.least_from l.least (drop l.fault-index l.rest) ≡ spec.least_from l.initial.least l.rest
