-- The log of a lane: its entries in order, segment after segment, and where each stands.
use Rattle.std.specs.Prelude.{ℕ, ◌+◌, List, [], ◌∷◌, ◌++◌, map}
use Rattle.std.specs.List.{flat_map}
use Rattle.event_value.specs.declared.record.Item.{Item}
use Rattle.event_value.specs.declared.record.Item.TheVariants.{Good, Bad}
use Rattle.event_value.specs.declared.record.Position.{Position}
use Rattle.event_value.specs.declared.record.Rule.{Rule}
use Rattle.event_value.specs.declared.value.Value.{Value}

-- what stands in a lane
pub data LaneEntry : Type 0 where
  -- a record: when it was enqueued, the end of its segment, and its values
  Record : (enqueued through : ℕ) (values : List Value) → LaneEntry
  -- an item that is no record, by the rule that it breaks
  Broken : (rule : Rule) → LaneEntry
  -- the mark at the end of a segment
  End : (through : ℕ) → LaneEntry

-- a segment: the items of its file, and the moment at which it ends
pub record LaneSegment : Type 0 where
  pub items : List Item
  pub through : ℕ

-- an item of a segment that ends at this moment
abbrev pub item_entry : ℕ → Item → LaneEntry
item_entry through (Good enqueued values) = Record enqueued through values
item_entry through (Bad rule) = Broken rule

-- the items of a segment, and then its mark
abbrev pub segment_entries : LaneSegment → List LaneEntry
segment_entries segment = map (item_entry segment.through) segment.items ++ End segment.through ∷ []

-- the entries of a lane
abbrev pub lane_entries : List LaneSegment → List LaneEntry
lane_entries segments = flat_map segment_entries segments

-- the start of a lane
abbrev pub origin : Position
origin = record { segment = 0; index = 0 }

-- the place behind an entry: behind a mark begins the next segment
abbrev pub place_behind : Position → LaneEntry → Position
place_behind place (Record _ _ _) = record { segment = place.segment; index = place.index + 1 }
place_behind place (Broken _) = record { segment = place.segment; index = place.index + 1 }
place_behind place (End _) = record { segment = place.segment + 1; index = 0 }

-- the place behind further entries
abbrev pub place_after : Position → List LaneEntry → Position
place_after place [] = place
place_after place (e ∷ es) = place_after (place_behind place e) es

-- the place behind the first entries of a lane
abbrev pub position : List LaneEntry → Position
position front = place_after origin front
