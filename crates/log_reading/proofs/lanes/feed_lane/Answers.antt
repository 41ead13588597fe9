use Rattle.std.proofs.Common.{◌∙◌, List, subst, sym, ap}
use Rattle.std.proofs.lemmas.Result.{IfOk-weaker}
use Rattle.input_types.specs.declared.inputs.SegmentName.{SegmentName}
use Rattle.log_reading.specs.Feeding.{BeginsWith}
use Rattle.log_reading.specs.Log.{files_of_segments}
use Rattle.log_reading.specs.Places.{files_at}
use Rattle.log_reading.proofs.AskingLemmas.{AsksUntil-same}
use Rattle.log_reading.proofs.FeedingLemmas.{BeginsWith-fresh, FeedsLane-segments, no-place}
use Rattle.log_reading.proofs.lanes.feed_lane.Goals as goal

pub returns-in-None-clause-fed : goal.returns-in-None-clause-fed
returns-in-None-clause-fed g c = absurd (no-place _ _ c.requires (sym c.in-None.ensures))

pub returns-in-None-clause-asked : goal.returns-in-None-clause-asked
returns-in-None-clause-asked g c = absurd (no-place _ _ c.requires (sym c.in-None.ensures))

pub feed_segments-requires : goal.feed_segments-requires
feed_segments-requires g c =
    subst (λ (segments : List SegmentName). BeginsWith c.args.lane segments) (sym c.items.ensures)
    (BeginsWith-fresh _ _ c.requires.place _ _ (sym c.in-Some.ensures) c.requires.at)

pub returns-in-Some-clause-fed : goal.returns-in-Some-clause-fed
returns-in-Some-clause-fed g c =
    IfOk-weaker c.feed_segments.result _ _ (λ new fed. FeedsLane-segments _ _ _ _ _ _ new (sym c.in-Some.ensures) c.items.ensures fed) c.feed_segments.ensures.fed

pub returns-in-Some-clause-asked : goal.returns-in-Some-clause-asked
returns-in-Some-clause-asked g c =
    AsksUntil-same _ _ _ _ _ (ap files_of_segments c.items.ensures ∙ ap files_at c.in-Some.ensures) c.feed_segments.ensures.asked
