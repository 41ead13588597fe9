use Rattle.std.proofs.Common.{◌≡◌, ◌++◌, drop}
use Rattle.query_type.specs.Unions as spec
use Rattle.query_type.proofs.unions.merged_columns.Given as goal

abbrev pub invariant-loop-column : goal.invariant-loop-column
invariant-loop-column l =
    l.columns ++ spec.merged_columns (drop l.column-index l.left) l.others ≡
    spec.merged_columns l.left l.fn.right
