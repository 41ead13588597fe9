use Rattle.std.proofs.Common.{◌≡◌, ◌++◌}
use Rattle.stream_op.specs.Rows.{AreInOrder}
use Rattle.window_flow.specs.Sliding.{slides_at}
use Rattle.window_flow.proofs.sliding.SlidingSpec.push_slides.Given as goal

abbrev pub invariant-loop-moment : goal.invariant-loop-moment
invariant-loop-moment l =
    AreInOrder l.rows → l.given ++ slides_at l.self l.key l.rows l.moment-iterator ≡ l.initial.given ++ slides_at l.self l.key l.rows l.moments.keys
