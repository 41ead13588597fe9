use Rattle.std.proofs.Common.{◌≡◌, ◌++◌, drop}
use Rattle.query_sources.specs.Sources as spec
use Rattle.query_sources.proofs.sources.scope_columns.Given as goal

abbrev pub invariant-loop-column : goal.invariant-loop-column
invariant-loop-column l =
    l.found ++ spec.columns_at l.number (drop l.column-index l.columns) ≡
    spec.columns_at l.fn.first l.columns
