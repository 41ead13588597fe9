-- The rows of a stream by their times, and which rows may come after others.
use Rattle.std.specs.Prelude.{ℕ, List}
use Rattle.event_value.specs.declared.record.Stamped.{Stamped}
use Rattle.row_order.specs.InOrder.{AllBelow, AllFrom, IsInOrder}
use Rattle.row_order.specs.Stretches.{rows_below, rows_from, rows_between}

-- the time of a row
abbrev pub time_of : Stamped → ℕ
time_of row = row.time

-- no row is earlier than one before it
abbrev pub AreInOrder : List Stamped → Type 0
AreInOrder rows = IsInOrder time_of rows

-- the rows below u
abbrev pub below : ℕ → List Stamped → List Stamped
below u rows = rows_below time_of u rows

-- the rows at w or later
abbrev pub from_on : ℕ → List Stamped → List Stamped
from_on w rows = rows_from time_of w rows

-- the rows at w or later, and below u
abbrev pub between : ℕ → ℕ → List Stamped → List Stamped
between w u rows = rows_between time_of w u rows

-- rows in order, all of them below w
pub record AreBefore (w : ℕ) (rows : List Stamped) : Type 0 where
  pub in_order : AreInOrder rows
  pub below_it : AllBelow time_of w rows

-- rows in order, all of them at w or later, and below u
pub record AreNext (w u : ℕ) (rows : List Stamped) : Type 0 where
  pub in_order : AreInOrder rows
  pub from_last : AllFrom time_of w rows
  pub below_new : AllBelow time_of u rows

-- the rows of both inputs that were there when they were complete below w
pub record AreTaken (w : ℕ) (left right : List Stamped) : Type 0 where
  pub left_before : AreBefore w left
  pub right_before : AreBefore w right
