use Rattle.std.proofs.Common.{◌≡◌, drop}
use Rattle.query_sources.specs.Stamps as spec
use Rattle.query_sources.proofs.stamps.columns_listed.Given as goal

abbrev pub invariant-loop-path : goal.invariant-loop-path
invariant-loop-path l =
    spec.columns_from l.sources l.columns (drop l.path-index l.more) ≡
    spec.columns_from l.sources l.initial.columns l.more
