use Rattle.std.proofs.Common.{◌≡◌, take}
use Rattle.query_type.specs.Items as spec
use Rattle.query_type.proofs.items.column_names.Given as goal

abbrev pub invariant-loop-column : goal.invariant-loop-column
invariant-loop-column l =
    l.names ≡ spec.column_names (take l.column-index l.columns)
