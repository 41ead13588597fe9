use Rattle.std.proofs.Common.{◌≡◌, ◌++◌}
use Rattle.std.specs.Vec.Iter.{into_iter_items}
use Rattle.log_reading.specs.References.{rows_of_items}
use Rattle.log_reading.proofs.reference_rows.rows_of_items.Given as goal

-- the rows so far, and those to come
abbrev pub invariant-loop-item : goal.invariant-loop-item
invariant-loop-item l = l.rows ++ rows_of_items (into_iter_items l.item-iterator) ≡ rows_of_items l.fn.items
