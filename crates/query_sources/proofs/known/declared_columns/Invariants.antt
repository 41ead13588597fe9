use Rattle.std.proofs.Common.{◌≡◌, take}
use Rattle.query_sources.specs.Known as spec
use Rattle.query_sources.proofs.known.declared_columns.Given as goal

abbrev pub invariant-loop-column : goal.invariant-loop-column
invariant-loop-column l =
    l.found ≡ spec.declared_columns (take l.column-index l.columns)
