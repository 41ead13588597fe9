use Rattle.std.proofs.Common.{◌≡◌, map, drop}
use Rattle.query_readings.specs.Same.{all_hold}
use Rattle.query_type.specs.Unions as spec
use Rattle.query_type.proofs.unions.are_equal_columns.Given as goal

abbrev pub invariant-loop-column : goal.invariant-loop-column
invariant-loop-column l =
    all_hold (map spec.is_equal_column (drop l.column-index l.left)) l.others ≡ spec.are_equal_columns l.left l.fn.right
