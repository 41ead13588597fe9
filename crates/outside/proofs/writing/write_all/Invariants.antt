use Rattle.std.proofs.Common.{◌≤◌, length}
use Rattle.outside.specs.Written.{WritesAllBut}
use Rattle.outside.proofs.writing.write_all.Given as goal

abbrev pub invariant-loop-rest : goal.invariant-loop-rest
invariant-loop-rest g l = record {
  written : WritesAllBut l.rest l.fn.bytes (g.O.Sink.written l.fn.out) (g.O.Sink.written l.out);
  never_falls : g.O.Sink.faults l.fn.out ≤ g.O.Sink.faults l.out;
}

abbrev pub decreases-loop-rest : goal.decreases-loop-rest
decreases-loop-rest g l = length l.rest
