-- Reading the entries of a list one after the other.
use Rattle.std.proofs.Common.{List, ◌++◌, Result, Ok, Err}
use Rattle.input_book.specs.declared.input_err.InputErr.{InputErr}

-- what is read of further entries, behind those that are read already
abbrev pub joined : {A : Type 0} → List A → Result (List A) InputErr → Result (List A) InputErr
joined front (Ok rest) = Ok (front ++ rest)
joined front (Err e) = Err e
