use Rattle.std.proofs.Common.{◌+◌, ◌∙◌, List, [], ◌∷◌, drop, subst, sym, ap, arith}
use Rattle.std.proofs.lemmas.List.{at_drop_more, length-take-le}
use Rattle.std.proofs.lemmas.Result.{err_from_is_err_and}
use Rattle.input_types.specs.declared.inputs.SegmentName.{SegmentName}
use Rattle.log_reading.specs.Feeding.{FeedsFiles}
use Rattle.log_reading.specs.Log.{files_of_segments}
use Rattle.log_reading.proofs.AskingLemmas.{AsksAllBut-next, AsksAllBut-start, AsksOnErr-from_all_but}
use Rattle.log_reading.proofs.FeedingLemmas.{FeedsFiles-next, FeedsFiles-start, IsAtSegment-next}
use Rattle.log_reading.proofs.KnownLemmas.{take_at}
use Rattle.log_reading.proofs.files.feed_segments.Goals as goal

pub loop-segment-init : goal.loop-segment-init
loop-segment-init g c = record {
  fed = FeedsFiles-start _ c.args.stream.now c.args.lane;
  asked = AsksAllBut-start _ _;
  never_falls = omega arith;
}

pub feed_file-requires : goal.feed_file-requires
feed_file-requires g c =
    IsAtSegment-next (g.F.Files.known c.args.files.now) c.args.stream.now c.args.segments.now c.loop-segment.segment-index c.segment-item.result c.args.lane c.loop-segment.fed
    c.loop-segment-test.true c.segment-item.is (length-take-le c.loop-segment.segment-index c.args.segments.now (omega arith)) c.requires c.loop-segment.invariant.fed

pub returns-in_err-fed-clause-asked : goal.returns-in_err-fed-clause-asked
returns-in_err-fed-clause-asked g c =
    let is = at_drop_more files_of_segments c.args.segments.now c.loop-segment.segment-index c.segment-item.result c.loop-segment-test.true in
    let p = err_from_is_err_and c.from_residual.result c.from_residual.ensures.1 in
    rw (p.1, p.2)
    (AsksOnErr-from_all_but _ _ (c.segment-item.result.file ∷ []) _ _ _ _ _
    (is ∙ ap (λ (s : SegmentName). s.file ∷ files_of_segments (drop (c.loop-segment.segment-index + 1) c.args.segments.now)) (sym c.segment-item.is))
    c.loop-segment.invariant.asked c.in_err-fed.ensures.asked)

pub loop-segment-preserved : goal.loop-segment-preserved
loop-segment-preserved g c =
    let is = at_drop_more files_of_segments c.args.segments.now c.loop-segment.segment-index c.segment-item.result c.loop-segment-test.true in
    record {
      fed =
          subst (λ (names : List SegmentName). FeedsFiles (g.F.Files.known c.args.files.now) c.args.stream.now names c.args.lane c.in_ok-fed.fed)
          (sym (take_at c.args.segments.now c.loop-segment.segment-index c.segment-item.result c.loop-segment-test.true c.segment-item.is))
          (FeedsFiles-next _ _ _ _ _ _ _ _ _ c.loop-segment.invariant.asked.asks c.loop-segment.invariant.fed c.in_ok-fed.ensures.fed);
      asked =
          AsksAllBut-next _ (c.segment-item.result.file ∷ []) _ _ _ _ _
          (is ∙ ap (λ (s : SegmentName). s.file ∷ files_of_segments (drop (c.loop-segment.segment-index + 1) c.args.segments.now)) (sym c.segment-item.is))
          c.loop-segment.invariant.asked c.in_ok-fed.ensures.asked;
      never_falls = omega (arith, c.in_ok-fed.ensures.never_falls);
    }
