use Rattle.std.proofs.Common.{◌≡◌, drop}
use Rattle.query_sources.specs.Joins as spec
use Rattle.query_sources.proofs.joins.read_joins_from.Given as goal

abbrev pub invariant-loop-join : goal.invariant-loop-join
invariant-loop-join l =
    spec.joins_read_from l.known l.left l.so_far (drop l.join-index l.joins) l.draft ≡
    spec.joins_read_from l.known l.left l.fn.so_far l.joins l.fn.draft
