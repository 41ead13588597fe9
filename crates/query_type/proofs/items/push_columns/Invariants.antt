use Rattle.std.proofs.Common.{◌≡◌, drop}
use Rattle.query_type.specs.Items as spec
use Rattle.query_type.proofs.items.push_columns.Given as goal

abbrev pub invariant-loop-column : goal.invariant-loop-column
invariant-loop-column l =
    spec.with_columns l.place l.picked (drop l.column-index l.columns) ≡
    spec.with_columns l.place l.fn.picked l.columns
