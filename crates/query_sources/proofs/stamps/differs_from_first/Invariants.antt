use Rattle.std.proofs.Common.{◌≡◌, drop}
use Rattle.query_sources.specs.Stamps as spec
use Rattle.query_sources.proofs.stamps.differs_from_first.Given as goal

abbrev pub invariant-loop-first : goal.invariant-loop-first
invariant-loop-first l =
    spec.differs_from_first (drop l.first-index l.mentions) l.mention ≡
    spec.differs_from_first l.mentions l.mention
