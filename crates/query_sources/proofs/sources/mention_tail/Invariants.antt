use Rattle.std.proofs.Common.{◌≡◌, drop}
use Rattle.query_sources.specs.Sources as spec
use Rattle.query_sources.proofs.sources.mention_tail.Given as goal

abbrev pub invariant-loop-join : goal.invariant-loop-join
invariant-loop-join l =
    spec.joins_mentioned l.known (drop l.join-index l.join-items) l.draft ≡
    spec.joins_mentioned l.known l.join-items l.initial.draft
