-- What the operators on single rows and on two streams mean.
use Rattle.std.specs.Prelude.{Bool, List, filter, map}
use Rattle.event_value.specs.declared.record.Stamped.{Stamped}
use Rattle.event_value.specs.declared.value.Value.{Value}
use Rattle.row_order.specs.Merge.{merge}
use Rattle.stream_op.specs.Rows.{time_of}

-- the rows that pass a test
abbrev pub filtered : {T : Type 0} → (T → Stamped → Bool) → T → List Stamped → List Stamped → List Stamped
filtered passes test left right = filter (passes test) left

-- a row at the same time with other values
abbrev pub with_values : {B : Type 0} → (B → Stamped → List Value) → B → Stamped → Stamped
with_values built build row = record { time = row.time; values = built build row }

-- each row with the values that are built from it
abbrev pub projected : {B : Type 0} → (B → Stamped → List Value) → B → List Stamped → List Stamped → List Stamped
projected built build left right = map (with_values built build) left

-- the rows of both inputs in order of time, of equal times the left ones first
abbrev pub united : Unit {0} → List Stamped → List Stamped → List Stamped
united spec left right = merge time_of left right
