use Rattle.std.proofs.Common.{◌≡◌, sym, ap, ◌∙◌, arith}
use Rattle.event_value.specs.declared.record.Stamped.{Stamped}
use Rattle.window_flow.specs.Sessions.{most_of, timeout_of}
use Rattle.window_flow.proofs.PlaceLemmas.{so_far-off, so_far-on}
use Rattle.window_flow.proofs.session.SessionSpecParts.push_rows.Goals as goal
use Rattle.window_flow.proofs.session.SessionSpecParts.push_rows.Goals.{then-end_of-time+in_ok-push_session, else-end_of-time}

pub loop-place-preserved : goal.loop-place-preserved
loop-place-preserved c =
    let spec = c.args.self.now in
    let rows = c.args.rows.now in
    let old = c.loop-place.invariant in
    let row = c.index-rows-place.result in
    let now : c.count-time.result ≡ row.time = c.count-time.ensures.value ∙ ap (λ (r : Stamped). r.time) (sym c.index-rows-place.is) in
    elim c.if-end_of-time.branch [
      | then-end_of-time+in_ok-push_session w ↦ record {
        first_before = omega (arith, w.first-is);
        start_moment = omega (arith, w.start-is, c.count-time.ensures.in_range);
        last_moment = c.count-time.ensures.in_range;
        so_far = rw (w.given-is, w.first-is, w.start-is, now, w.in_ok-push_session.ensures) (
            so_far-off (timeout_of spec) (most_of spec) rows c.loop-place.first c.loop-place.place c.loop-place.start c.loop-place.last row old.first_before c.loop-place-test.true c.index-rows-place.is spec c.args.from c.args.upto c.loop-place.given (rw (c.end_of.ensures, now) at w.if-end_of-time.true)
            ∙ old.so_far
            );
      }
      | else-end_of-time w ↦ record {
        first_before = omega (arith, w.first-is, old.first_before);
        start_moment = omega (arith, w.start-is, old.start_moment);
        last_moment = c.count-time.ensures.in_range;
        so_far = rw (w.given-is, w.first-is, w.start-is, now) (
            so_far-on (timeout_of spec) (most_of spec) rows c.loop-place.first c.loop-place.place c.loop-place.start c.loop-place.last row old.first_before c.loop-place-test.true c.index-rows-place.is spec c.args.from c.args.upto c.loop-place.given (rw (c.end_of.ensures, now) at w.if-end_of-time.false)
            ∙ old.so_far
            );
      }
    ]
