-- What contracts see of a key within a table: the text that is told.
use Rattle.std.specs.Prelude.{ℕ, List}
use Rattle.input_book.specs.Refusals.{entry_key}
use Rattle.input_book.specs.declared.key.Key.{Key}
use Rattle.input_book.specs.declared.key.Key.TheVariants.{Member, Entry}

abbrev pub key_text : Key → List ℕ
key_text (Member name) = name.now
key_text (Entry list index) = entry_key list.now index
