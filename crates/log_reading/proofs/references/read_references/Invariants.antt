use Rattle.std.proofs.Common.{◌≤◌, take, drop}
use Rattle.std.specs.Prelude.{slice_get}
use Rattle.log_reading.specs.Asking.{AsksAllBut}
use Rattle.log_reading.specs.References.{references_files, snapshots_found}
use Rattle.log_reading.proofs.ReferenceLemmas.{AreOf}
use Rattle.log_reading.proofs.references.read_references.Given as goal

-- the references so far are read
abbrev pub invariant-loop-number : goal.invariant-loop-number
invariant-loop-number g l = record {
  versions :
      AreOf (g.F.Files.known l.fn.files) (λ known n. snapshots_found known (slice_get l.inputs.references n))
      (take l.number-index l.numbers) l.versions;
  asked :
      AsksAllBut (references_files l.inputs.references (drop l.number-index l.numbers))
      (references_files l.inputs.references l.numbers)
      (g.F.Files.known l.fn.files) (g.F.Files.known l.files);
  never_falls : g.F.Files.faults l.fn.files ≤ g.F.Files.faults l.files;
}
