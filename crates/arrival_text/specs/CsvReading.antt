-- What a reader of CSV has left to give, for private clauses.
use Rattle.std.specs.Prelude.{◌≡◌, ◌+◌, ℕ, List, [], ◌∷◌, length, Bool, Option, Some, None, if◌then◌else◌}
use Rattle.std.specs.Borrow.{Bor}
use Rattle.csv.specs.Reading.{records_from, Ready, reader_config, reader_state, reader_trim, source_of}
use Rattle.csv.specs.declared.parser.Config.{Config}
use Rattle.csv.specs.declared.parser.State.{State}
use Rattle.csv.specs.declared.reader.Reader.{Reader}
use Rattle.csv.specs.declared.reader.Trim.TheVariants as trim
use Rattle.arrival_text.specs.CsvItems.{Fields}

-- the bytes that the reader has left
abbrev pub bytes_left : Reader (Bor (List ℕ)) → Option (List ℕ)
bytes_left reader = source_of (λ s. Some s.now) reader

abbrev pub records_in : Config → State → Option (List ℕ) → List Fields
records_in config state (Some bytes) = records_from config (length bytes + 1) state bytes
records_in config state None = []

-- the records that it has left
unfoldable pub records_left : Reader (Bor (List ℕ)) → List Fields
records_left reader = records_in (reader_config reader) (reader_state reader) (bytes_left reader)

-- the reader gives records as they stand, one after the other
unfoldable pub IsReading : Reader (Bor (List ℕ)) → Type 0
IsReading reader =
    (reader_trim reader ≡ trim.None) × Ready reader × (bytes : List ℕ) × (bytes_left reader ≡ Some bytes)

-- the records from before a read on, where it found one or didn't
abbrev pub found_before : Bool → Fields → List Fields → List Fields
found_before found fields after = if found then fields ∷ after else []
