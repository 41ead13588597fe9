use Rattle.std.proofs.Common.{◌∙◌, List, length, ap, subst, sym}
use Rattle.std.proofs.lemmas.List.{length-map}
use Rattle.input_types.specs.declared.inputs.SnapshotName.{SnapshotName}
use Rattle.stream_joins.specs.Snapshots.{Ascend}
use Rattle.log_reading.specs.References.{effective_moments, rows_of_file}
use Rattle.log_reading.proofs.ReferenceLemmas.{AreOf, Ascend-moments, snapshots-read}
use Rattle.log_reading.proofs.references.read_reference.Goals as goal

pub of-requires-clause-ascending : goal.of-requires-clause-ascending
of-requires-clause-ascending g c =
    let is = c.items.ensures ∙ c.in_ok-effective.ensures ∙ ap effective_moments c.items-snapshots.ensures in
    subst Ascend (sym is) (Ascend-moments c.args.reference.now.snapshots c.requires.order)

pub of-requires-clause-paired : goal.of-requires-clause-paired
of-requires-clause-paired g c =
    ap length (c.items.ensures ∙ c.in_ok-effective.ensures)
    ∙ length-map c.items-snapshots.result.now (λ (s : SnapshotName). s.effective) ∙ sym c.in_ok-rows.ensures.count

pub returns-clause-versions : goal.returns-clause-versions
returns-clause-versions g c =
    snapshots-read (g.F.Files.known c.args.files.now) c.args.reference.now c.items.result.now c.in_ok-rows.rows c.in_ok-of.field-0 c.in_ok-of.ensures
    (c.items.ensures ∙ c.in_ok-effective.ensures ∙ ap effective_moments c.items-snapshots.ensures)
    (subst (λ (snapshots : List SnapshotName). AreOf (g.F.Files.known c.args.files.now) (λ known (s : SnapshotName). rows_of_file known c.args.reference.now s.file) snapshots c.in_ok-rows.rows)
    c.items-snapshots.ensures c.in_ok-rows.ensures.rows)
