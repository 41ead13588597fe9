use Rattle.std.proofs.Common.{◌≡◌, ◌≤◌, length, take, drop}
use Rattle.log_reading.specs.Asking.{AsksAllBut}
use Rattle.log_reading.specs.References.{files_of_snapshots, rows_of_file}
use Rattle.log_reading.proofs.ReferenceLemmas.{AreOf}
use Rattle.log_reading.proofs.references.read_snapshots.Given as goal

-- the snapshots so far are read
abbrev pub invariant-loop-snapshot : goal.invariant-loop-snapshot
invariant-loop-snapshot g l = record {
  rows :
      AreOf (g.F.Files.known l.fn.files) (λ known s. rows_of_file known l.reference s.file)
      (take l.snapshot-index l.snapshots) l.rows;
  count : length l.rows ≡ l.snapshot-index;
  asked :
      AsksAllBut (files_of_snapshots (drop l.snapshot-index l.snapshots)) (files_of_snapshots l.snapshots)
      (g.F.Files.known l.fn.files) (g.F.Files.known l.files);
  never_falls : g.F.Files.faults l.fn.files ≤ g.F.Files.faults l.files;
}
