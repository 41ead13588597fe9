use Rattle.std.proofs.Common.{◌≡◌, ◌++◌, take}
use Rattle.query_forms.proofs.fault.push_faults.Given as goal

abbrev pub invariant-loop-fault : goal.invariant-loop-fault
invariant-loop-fault l =
    l.faults ≡ l.fn.faults ++ take l.fault-index l.more
