use Rattle.std.proofs.Common.{◌≡◌, ◌≤◌, length}
use Rattle.outside.specs.Written.{WritesAllBut}
use Rattle.connections.proofs.writing.write_all.Given as goal

abbrev pub invariant-loop-rest : goal.invariant-loop-rest
invariant-loop-rest g l = record {
  written : WritesAllBut l.rest l.fn.bytes (g.C.Conn.written l.fn.conn) (g.C.Conn.written l.conn);
  left : g.C.Conn.left l.conn ≡ g.C.Conn.left l.fn.conn;
  never_falls : g.C.Conn.faults l.fn.conn ≤ g.C.Conn.faults l.conn;
}

abbrev pub decreases-loop-rest : goal.decreases-loop-rest
decreases-loop-rest g l = length l.rest
