use Rattle.std.proofs.Common.{◌≡◌, [], take, drop, codes}
use Rattle.input_book.specs.Checks.{each, stream_names}
use Rattle.input_book.proofs.name_check.check_streams.Given as goal

abbrev pub invariant-loop-index : goal.invariant-loop-index
invariant-loop-index l =
    each stream_names (codes "stream") (take l.index l.streams) (drop l.index l.streams)
    ≡ each stream_names (codes "stream") [] l.streams
