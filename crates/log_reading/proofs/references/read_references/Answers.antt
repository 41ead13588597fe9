use Rattle.std.proofs.Common.{ℕ, List, get_or, subst, sym, arith}
use Rattle.std.proofs.lemmas.List.{at_drop_more, take_more}
use Rattle.std.proofs.lemmas.Result.{err_from_is_err_and}
use Rattle.std.specs.List.{flat_map}
use Rattle.std.specs.Prelude.{slice_get}
use Rattle.log_reading.specs.References.{reference_files, snapshots_found}
use Rattle.log_reading.proofs.AskingLemmas.{AsksAllBut-next, AsksAllBut-start, AsksOnErr-from_all_but, AsksPrefixOf-from_all_but}
use Rattle.log_reading.proofs.ReferenceLemmas.{AreOf, AreOf-next, AreOf-start, snapshots_found-after}
use Rattle.log_reading.proofs.references.read_references.Goals as goal

pub loop-number-init : goal.loop-number-init
loop-number-init g c = record {
  versions = AreOf-start _ (λ known (n : ℕ). snapshots_found known (slice_get c.args.inputs.now.references n)) _ c.empty-versions.ensures;
  asked = AsksAllBut-start _ _;
  never_falls = omega arith;
}

pub returns-in_err-next-clause-asked : goal.returns-in_err-next-clause-asked
returns-in_err-next-clause-asked g c =
    let is = at_drop_more (flat_map (λ (n : ℕ). reference_files (slice_get c.args.inputs.now.references n))) c.args.numbers.now c.loop-number.number-index 0 c.loop-number-test.true in
    let p = err_from_is_err_and c.from_residual.result c.from_residual.ensures.1 in
    rw (p.1, p.2) (AsksOnErr-from_all_but _ _ _ _ _ _ _ _ is c.loop-number.invariant.asked c.in_err-next.ensures.asked)

pub returns-in_err-push-clause-asked : goal.returns-in_err-push-clause-asked
returns-in_err-push-clause-asked g c =
    let is = at_drop_more (flat_map (λ (n : ℕ). reference_files (slice_get c.args.inputs.now.references n))) c.args.numbers.now c.loop-number.number-index 0 c.loop-number-test.true in
    let p = err_from_is_err_and c.from_residual-in_err-push.result c.from_residual-in_err-push.ensures.1 in
    rw (p.1, p.2) (AsksPrefixOf-from_all_but _ _ _ _ (AsksAllBut-next _ _ _ _ _ _ _ is c.loop-number.invariant.asked c.in_ok-next.ensures.asked))

pub loop-number-preserved : goal.loop-number-preserved
loop-number-preserved g c =
    let is = at_drop_more (flat_map (λ (n : ℕ). reference_files (slice_get c.args.inputs.now.references n))) c.args.numbers.now c.loop-number.number-index 0 c.loop-number-test.true in
    let found = slice_get c.args.inputs.now.references (get_or c.args.numbers.now c.loop-number.number-index 0) in
    record {
      versions =
          subst (λ (numbers : List ℕ). AreOf (g.F.Files.known c.args.files.now) (λ known (n : ℕ). snapshots_found known (slice_get c.args.inputs.now.references n)) numbers c.push.new.self)
          (sym (take_more c.args.numbers.now c.loop-number.number-index 0 c.loop-number-test.true))
          (AreOf-next _ _ (λ known (n : ℕ). snapshots_found known (slice_get c.args.inputs.now.references n)) _ _ (get_or c.args.numbers.now c.loop-number.number-index 0) _ _ _ (λ known left. snapshots_found-after (reference_files found) left known found)
          c.in_ok-push.ensures.ok c.loop-number.invariant.asked.asks c.loop-number.invariant.versions c.in_ok-next.ensures.versions);
      asked = AsksAllBut-next _ _ _ _ _ _ _ is c.loop-number.invariant.asked c.in_ok-next.ensures.asked;
      never_falls = omega (arith, c.in_ok-next.ensures.never_falls);
    }
