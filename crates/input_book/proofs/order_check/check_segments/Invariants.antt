use Rattle.std.proofs.Common.{◌≡◌, [], take, drop, codes}
use Rattle.input_book.specs.Checks.{each, segment_order, last_through}
use Rattle.input_book.proofs.order_check.check_segments.Given as goal

abbrev pub invariant-loop-index : goal.invariant-loop-index
invariant-loop-index l = record {
  before : l.before ≡ last_through (take l.index l.segments);
  rest : each segment_order (codes "segments") (take l.index l.segments) (drop l.index l.segments)
      ≡ each segment_order (codes "segments") [] l.segments;
}
