-- Files that are longer than a segment may be (docs/INPUTS, "Records").
use Rattle.std.specs.Prelude.{ℕ, List, [], ◌∷◌, length, nat_lt, if◌then◌else◌}
use Rattle.event_value.specs.declared.record.Item.{Item}
use Rattle.event_value.specs.declared.record.Item.TheVariants.{Bad}
use Rattle.event_value.specs.declared.record.Rule.TheVariants.{SegmentTooLong}

-- the greatest length of a segment in bytes
abbrev pub max_segment : ℕ
max_segment = 4_194_304

-- the one item of a longer file
abbrev pub too_long_items : List Item
too_long_items = Bad SegmentTooLong ∷ []

-- the items of a file of any length, where this reads those of a segment
abbrev pub segment_items : (List ℕ → List Item) → List ℕ → List Item
segment_items items_in bytes =
    if nat_lt max_segment (length bytes) then too_long_items else items_in bytes
