-- The entries of a lane, as the policies see them.
use Rattle.std.specs.Prelude.{ℕ, List, Option}
use Rattle.event_value.specs.declared.record.Rule.{Rule}
use Rattle.event_value.specs.declared.value.Value.{Value}

-- what stands in a lane
pub data Entry : Type 0 where
  -- a record: when it was enqueued, the end of its segment, its stamp, and the key of its substream
  Good : (enqueued through : ℕ) (stamp : Option ℕ) (key : List Value) → Entry
  -- an item that is no record, by the rule that it breaks
  Bad : (rule : Rule) → Entry
  -- the mark at the end of a segment
  Mark : (through : ℕ) → Entry
