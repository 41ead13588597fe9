-- Rows that come next, behind those before them.
use Rattle.std.proofs.Common.{ℕ, ◌≤◌, List, [], ◌∷◌, ◌++◌, arith}
use Rattle.event_value.specs.declared.record.Stamped.{Stamped}
use Rattle.row_order.specs.InOrder.{AllFrom}
use Rattle.row_order.proofs.ListLemmas.{Each-append}
use Rattle.row_order.proofs.StretchLemmas.{AllBelow-higher, IsInOrder-append}
use Rattle.stream_op.specs.Rows.{AreBefore, AreInOrder, AreNext, AreTaken, time_of}

pub AreInOrder-next : (w u : ℕ) (old new : List Stamped) → AreBefore w old → AreNext w u new → AreInOrder (old ++ new)
AreInOrder-next w u old new a b = IsInOrder-append time_of w old new a.below_it b.from_last a.in_order b.in_order

-- rows before a moment, with the next ones, are before the next moment
pub AreBefore-next : (w u : ℕ) (old new : List Stamped) → w ≤ u → AreBefore w old → AreNext w u new → AreBefore u (old ++ new)
AreBefore-next w u old new le a b = record {
  in_order = AreInOrder-next w u old new a b;
  below_it = Each-append _ old new (AllBelow-higher time_of w u old le a.below_it) b.below_new;
}

pub AreTaken-next : (w u : ℕ) (left new_left right new_right : List Stamped) → w ≤ u → AreTaken w left right
    → AreNext w u new_left → AreNext w u new_right → AreTaken u (left ++ new_left) (right ++ new_right)
AreTaken-next w u left new_left right new_right le taken a b = record {
  left_before = AreBefore-next w u left new_left le taken.left_before a;
  right_before = AreBefore-next w u right new_right le taken.right_before b;
}

pub AreTaken-none : (w : ℕ) → AreTaken w [] []
AreTaken-none w = record {
  left_before = record { in_order = tt; below_it = tt };
  right_before = record { in_order = tt; below_it = tt };
}

pub AllFrom-zero : (rows : List Stamped) → AllFrom time_of 0 rows
AllFrom-zero [] = tt
AllFrom-zero (row ∷ rows) = (omega arith, AllFrom-zero rows)
