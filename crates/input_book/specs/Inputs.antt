-- What an inputs document says: its inputs, or the first cause of its refusal where one stands.
use Rattle.std.specs.Prelude.{◌≡◌, ℕ, List, length, nat_lt, if◌then◌else◌, Result, Ok, Err}
use Rattle.input_book.specs.Checks.{effective_order, limits_check, names_check, order_check}
use Rattle.input_book.specs.Document.{document}
use Rattle.input_book.specs.Limits.{max_document}
use Rattle.input_book.specs.Refusals.{◌>>=◌, ok_or}
use Rattle.input_book.specs.Tables.{root_of}
use Rattle.input_book.specs.declared.input_err.InputErr.{InputErr}
use Rattle.input_book.specs.declared.input_err.InputErr.TheVariants.{Toml, TooLong}
use Rattle.input_types.specs.declared.inputs.Inputs.{Inputs}

-- a document that isn't too long: its text, its tables, and then limits, names and moments
unfoldable pub inputs_of_short : List ℕ → Result Inputs InputErr
inputs_of_short bytes = do
  root ← ok_or Toml (document bytes)
  inputs ← root_of root
  _ ← limits_check inputs
  _ ← names_check inputs
  _ ← order_check inputs
  _ ← effective_order inputs
  Ok inputs

-- what a document says
unfoldable pub inputs_of : List ℕ → Result Inputs InputErr
inputs_of bytes =
    if nat_lt max_document (length bytes) then Err TooLong else inputs_of_short bytes

-- the inputs are those of a document
abbrev pub IsAccepted : Inputs → Type 0
IsAccepted inputs = (bytes : List ℕ) × (inputs_of bytes ≡ Ok inputs)
