use Rattle.std.proofs.Common.{◌≡◌, [], take, drop, codes}
use Rattle.input_book.specs.Checks.{each, column_names}
use Rattle.input_book.proofs.name_check.check_columns.Given as goal

abbrev pub invariant-loop-index : goal.invariant-loop-index
invariant-loop-index l =
    each column_names (codes "columns") (take l.index l.columns) (drop l.index l.columns)
    ≡ each column_names (codes "columns") [] l.columns
