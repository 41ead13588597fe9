use Rattle.std.proofs.Common.{◌+◌, ◌∙◌, ◌∷◌, [], List, drop, length, refl, subst, sym, ap, arith}
use Rattle.std.proofs.lemmas.List.{at_drop_more, length_push}
use Rattle.std.proofs.lemmas.Result.{err_from_is_err_and}
use Rattle.event_value.specs.declared.record.Stamped.{Stamped}
use Rattle.input_types.specs.declared.inputs.SnapshotName.{SnapshotName}
use Rattle.log_reading.specs.References.{files_of_snapshots, rows_of_file}
use Rattle.log_reading.proofs.AskingLemmas.{AsksAllBut-next, AsksAllBut-start, AsksOnErr-from_all_but, AsksPrefixOf-from_all_but}
use Rattle.log_reading.proofs.KnownLemmas.{take_at}
use Rattle.log_reading.proofs.ReferenceLemmas.{AreOf, AreOf-next, AreOf-start}
use Rattle.log_reading.proofs.references.read_snapshots.Goals as goal

pub loop-snapshot-init : goal.loop-snapshot-init
loop-snapshot-init g c = record {
  rows = AreOf-start _ (λ known (s : SnapshotName). rows_of_file known c.args.reference.now s.file) _ c.empty-rows.ensures;
  count = rw c.empty-rows.ensures refl;
  asked = AsksAllBut-start _ _;
  never_falls = omega arith;
}

pub returns-in_err-more-clause-asked : goal.returns-in_err-more-clause-asked
returns-in_err-more-clause-asked g c =
    let is = at_drop_more files_of_snapshots c.args.snapshots.now c.loop-snapshot.snapshot-index c.snapshot-item.result c.loop-snapshot-test.true in
    let p = err_from_is_err_and c.from_residual.result c.from_residual.ensures.1 in
    rw (p.1, p.2)
    (AsksOnErr-from_all_but _ _ (c.snapshot-item.result.file ∷ []) _ _ _ _ _
    (is ∙ ap (λ (s : SnapshotName). s.file ∷ files_of_snapshots (drop (c.loop-snapshot.snapshot-index + 1) c.args.snapshots.now)) (sym c.snapshot-item.is))
    c.loop-snapshot.invariant.asked c.in_err-more.ensures.asked)

pub returns-in_err-push-clause-asked : goal.returns-in_err-push-clause-asked
returns-in_err-push-clause-asked g c =
    let is = at_drop_more files_of_snapshots c.args.snapshots.now c.loop-snapshot.snapshot-index c.snapshot-item.result c.loop-snapshot-test.true in
    let p = err_from_is_err_and c.from_residual-in_err-push.result c.from_residual-in_err-push.ensures.1 in
    rw (p.1, p.2)
    (AsksPrefixOf-from_all_but _ _ _ _
    (AsksAllBut-next _ (c.snapshot-item.result.file ∷ []) _ _ _ _ _
    (is ∙ ap (λ (s : SnapshotName). s.file ∷ files_of_snapshots (drop (c.loop-snapshot.snapshot-index + 1) c.args.snapshots.now)) (sym c.snapshot-item.is))
    c.loop-snapshot.invariant.asked c.in_ok-more.ensures.asked))

pub loop-snapshot-preserved : goal.loop-snapshot-preserved
loop-snapshot-preserved g c =
    let is = at_drop_more files_of_snapshots c.args.snapshots.now c.loop-snapshot.snapshot-index c.snapshot-item.result c.loop-snapshot-test.true in
    record {
      rows =
          subst (λ (snapshots : List SnapshotName). AreOf (g.F.Files.known c.args.files.now) (λ known (s : SnapshotName). rows_of_file known c.args.reference.now s.file) snapshots c.push.new.self)
          (sym (take_at c.args.snapshots.now c.loop-snapshot.snapshot-index c.snapshot-item.result c.loop-snapshot-test.true c.snapshot-item.is))
          (AreOf-next _ _ (λ known (s : SnapshotName). rows_of_file known c.args.reference.now s.file) _ _ c.snapshot-item.result _ _ _ (λ known left. refl)
          c.in_ok-push.ensures.ok c.loop-snapshot.invariant.asked.asks c.loop-snapshot.invariant.rows c.in_ok-more.ensures.rows);
      count = ap (λ (rows : List (List Stamped)). length rows) c.in_ok-push.ensures.ok ∙ length_push _ _ ∙ ap (λ n. n + 1) c.loop-snapshot.invariant.count;
      asked =
          AsksAllBut-next _ (c.snapshot-item.result.file ∷ []) _ _ _ _ _
          (is ∙ ap (λ (s : SnapshotName). s.file ∷ files_of_snapshots (drop (c.loop-snapshot.snapshot-index + 1) c.args.snapshots.now)) (sym c.snapshot-item.is))
          c.loop-snapshot.invariant.asked c.in_ok-more.ensures.asked;
      never_falls = omega (arith, c.in_ok-more.ensures.never_falls);
    }
