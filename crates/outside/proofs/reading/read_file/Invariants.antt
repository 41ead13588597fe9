use Rattle.std.proofs.Common.{◌≤◌, ◌+◌, ◌-◌, vec_len}
use Rattle.outside.proofs.ReadingLemmas.{ReadsPrefix}
use Rattle.outside.proofs.reading.read_file.Given as goal

abbrev pub invariant-loop-piece : goal.invariant-loop-piece
invariant-loop-piece g l = record {
  read : ReadsPrefix l.fn.name (g.F.Files.known l.fn.files) (g.F.Files.known l.files) l.bytes.items;
  never_falls : g.F.Files.faults l.fn.files ≤ g.F.Files.faults l.files;
}

abbrev pub decreases-loop-piece : goal.decreases-loop-piece
decreases-loop-piece g l = l.limit + 1 - vec_len l.bytes
