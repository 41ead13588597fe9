use Rattle.std.proofs.Common.{◌≡◌, map, drop}
use Rattle.input_book.specs.Checks.{is_among}
use Rattle.input_book.proofs.name_check.has_column.Given as goal

abbrev pub invariant-loop-column : goal.invariant-loop-column
invariant-loop-column l = is_among (map (λ x. x.name) l.columns) l.name ≡ is_among (map (λ x. x.name) (drop l.column-index l.columns)) l.name
