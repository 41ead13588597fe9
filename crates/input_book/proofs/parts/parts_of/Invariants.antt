use Rattle.std.proofs.Common.{◌≡◌, drop}
use Rattle.toml.specs.View.{items_view}
use Rattle.input_book.proofs.EntryLemmas.{joined}
use Rattle.input_book.specs.Readers.{table_of, entries_from}
use Rattle.input_book.proofs.parts.parts_of.Given as goal

abbrev pub invariant-loop-index : goal.invariant-loop-index
invariant-loop-index g l =
    let read = table_of g.T.FromTable.read_as in
    joined l.parts.items (entries_from l.index read l.list (items_view (drop l.index l.items))) ≡ entries_from 0 read l.list (items_view l.items)
