use Rattle.std.proofs.Common.{◌≡◌, drop}
use Rattle.query_type.specs.Items as spec
use Rattle.query_type.proofs.items.push_star.Given as goal

abbrev pub invariant-loop-source : goal.invariant-loop-source
invariant-loop-source l =
    spec.with_sources l.place l.picked (drop l.source-index l.source-items) ≡
    spec.with_sources l.place l.initial.picked l.source-items
