use Rattle.std.proofs.Common.{◌≡◌, drop}
use Rattle.toml.specs.View.{items_view}
use Rattle.input_book.proofs.EntryLemmas.{joined}
use Rattle.input_book.specs.Readers.{text_of, entries_from}
use Rattle.input_book.specs.Ranges.{any}
use Rattle.input_book.proofs.texts.texts_of.Given as goal

abbrev pub invariant-loop-index : goal.invariant-loop-index
invariant-loop-index l =
    joined l.texts.items (entries_from l.index (text_of any) l.list (items_view (drop l.index l.items)))
    ≡ entries_from 0 (text_of any) l.list (items_view l.items)
