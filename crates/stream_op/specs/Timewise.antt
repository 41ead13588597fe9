-- Meanings whose rows at some times depend on input rows at these times alone.
use Rattle.std.specs.Prelude.{◌≡◌, ℕ, Bool, List, filter}
use Rattle.event_value.specs.declared.record.Stamped.{Stamped}
use Rattle.stream_op.specs.Rows.{AreInOrder}

-- the rows at the times that pass a test
abbrev pub at_times : (ℕ → Bool) → List Stamped → List Stamped
at_times test rows = filter (λ row. test row.time) rows

-- a test of the times may come before or after
pub record IsTimewise (op : List Stamped → List Stamped → List Stamped) : Type 0 where
  pub at_times_alone : (test : ℕ → Bool) (left right : List Stamped) → AreInOrder left → AreInOrder right
      → at_times test (op left right) ≡ op (at_times test left) (at_times test right)
  pub in_order : (left right : List Stamped) → AreInOrder left → AreInOrder right → AreInOrder (op left right)
