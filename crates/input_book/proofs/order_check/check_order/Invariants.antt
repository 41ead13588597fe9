use Rattle.std.proofs.Common.{◌≡◌, [], take, drop, codes}
use Rattle.input_book.specs.Checks.{each, stream_order}
use Rattle.input_book.proofs.order_check.check_order.Given as goal

abbrev pub invariant-loop-index : goal.invariant-loop-index
invariant-loop-index l =
    each (λ _ s. stream_order s) (codes "stream") (take l.index l.stream-items) (drop l.index l.stream-items)
    ≡ each (λ _ s. stream_order s) (codes "stream") [] l.stream-items
