use Rattle.std.proofs.Common.{◌≡◌, ◌≤◌, ◌++◌, ◌∷◌, [], ℕ, Bool, List, length, take, ap, sym, ◌∙◌, arith}
use Rattle.std.proofs.lemmas.List.{length-map, map-append, take_all, take_more}
use Rattle.query_plan.specs.declared.plan.StreamUse.{StreamUse}
use Rattle.input_types.specs.declared.inputs.SegmentName.{SegmentName}
use Rattle.job_core.specs.Fresh.{throughs_of}
use Rattle.job_core.specs.Heard.{is_closed}
use Rattle.job_core.specs.Lanes.{LaneKind}
use Rattle.job_core.proofs.LaneLemmas.{own}
use Rattle.job_core.proofs.lanes.start_lane.Goals as goal

pub loop-segment-init : goal.loop-segment-init
loop-segment-init c = c.empty-throughs.ensures

pub loop-segment-preserved : goal.loop-segment-preserved
loop-segment-preserved c =
    let at = c.loop-segment.segment-index in
    let segments = c.args.partition.now.segments in
    c.in_ok-push.ensures.ok
    ∙ ap (λ ts. ts ++ c.segment-item.result.through ∷ []) c.loop-segment.invariant
    ∙ sym (map-append (λ (s : SegmentName). s.through) (take at c.items-segments.result.now) (c.segment-item.result ∷ []))
    ∙ ap throughs_of (sym (take_more c.items-segments.result.now at c.segment-item.result c.loop-segment-test.true ∙ ap (λ (s : SegmentName). take at c.items-segments.result.now ++ s ∷ []) (sym c.segment-item.is)))

all-throughs : (throughs : List ℕ) (at : ℕ) (given segments : List SegmentName) → throughs ≡ throughs_of (take at given) → length given ≤ at → given ≡ segments → throughs ≡ throughs_of segments
all-throughs throughs at given segments is le same = is ∙ ap throughs_of (take_all at given le ∙ same)

pub start-lane-requires-clause-few : goal.start-lane-requires-clause-few
start-lane-requires-clause-few c =
    let segments = c.args.partition.now.segments in
    let all = all-throughs c.loop-segment.throughs c.loop-segment.segment-index c.items-segments.result.now segments c.loop-segment.invariant (omega (arith, c.loop-segment-test.false)) c.items-segments.ensures in
    omega (arith, c.requires.segments, ap length all, length-map segments (λ (s : SegmentName). s.through))

pub returns-clause-kind : goal.returns-clause-kind
returns-clause-kind c =
    let partition = c.args.partition.now in
    let lane = c.start-lane.result in
    let heard = c.start-lane.ensures.heard in
    let all = all-throughs c.loop-segment.throughs c.loop-segment.segment-index c.items-segments.result.now partition.segments c.loop-segment.invariant (omega (arith, c.loop-segment-test.false)) c.items-segments.ensures in
    ap (λ (u : StreamUse). (let kind : LaneKind = record { used = u; partition = lane.partition; throughs = lane.throughs; ended = lane.ended } in kind)) (heard.used_is ∙ c.in_ok-used.ensures)
    ∙ ap (λ (n : ℕ). (let kind : LaneKind = record { used = c.args.used.now; partition = n; throughs = lane.throughs; ended = lane.ended } in kind)) heard.partition_is
    ∙ ap (λ (ts : List ℕ). (let kind : LaneKind = record { used = c.args.used.now; partition = c.args.number; throughs = ts; ended = lane.ended } in kind)) (c.start-lane.ensures.throughs ∙ all)
    ∙ ap (λ (b : Bool). (let kind : LaneKind = record { used = c.args.used.now; partition = c.args.number; throughs = throughs_of partition.segments; ended = b } in kind)) c.start-lane.ensures.ended

pub returns-clause-stands : goal.returns-clause-stands
returns-clause-stands c =
    let partition = c.args.partition.now in
    let lane = c.start-lane.result in
    let heard = c.start-lane.ensures.heard in
    let all = all-throughs c.loop-segment.throughs c.loop-segment.segment-index c.items-segments.result.now partition.segments c.loop-segment.invariant (omega (arith, c.loop-segment-test.false)) c.items-segments.ensures in
    let many : length partition.segments ≡ length lane.throughs =
    omega (arith, ap length all, length-map partition.segments (λ (s : SegmentName). s.through), ap length c.start-lane.ensures.throughs) in
    record {
      heard = own c.args.policy.now c.in_ok-used.used c.args.number lane [] [] 0 heard;
      closed_is =
          ap (is_closed partition.ended (length partition.segments)) (sym heard.place_is)
          ∙ ap (λ n. is_closed partition.ended n lane.place) many
          ∙ ap (λ b. is_closed b (length lane.throughs) lane.place) (sym c.start-lane.ensures.ended);
      settled = omega arith;
    }
