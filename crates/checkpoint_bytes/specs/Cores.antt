-- A core as bytes (docs/FORMATS, "Cores"): what a run keeps to go on.
--
--   OFFSET  SIZE  MEANING
--        0     .  lanes: a list of lanes
--        .     .  steps: a list with a text for each step of the plan
--        .     8  upto: a moment
--
-- A lane:
--   OFFSET  SIZE  MEANING
--        0     8  arrival: a moment
--        8     8  watermark: a moment
--       16     .  marks: a list of marks of substreams, in order of key, each key once
--        .     .  waiting: a list of waiting events, in order of time, segment, index, none twice
--
-- A waiting event:
--   OFFSET  SIZE  MEANING
--        0     8  time: a moment
--        8     4  segment
--       12     4  index
--       16     .  values: a list of values
use Rattle.std.specs.Prelude.{ℕ, Bool, true, ◌&&◌, List, [], ◌∷◌}
use Rattle.std.specs.List.{list_all}
use Rattle.std.specs.Ordering.{is_lt, nat_cmp, ordering_then}
use Rattle.std.specs.declared.cmp.Ordering.{Ordering}
use Rattle.checkpoint_bytes.specs.declared.core_form.CoreForm.{CoreForm}
use Rattle.checkpoint_bytes.specs.declared.core_form.LaneForm.{LaneForm}
use Rattle.checkpoint_bytes.specs.declared.core_form.Waiting.{Waiting}
use Rattle.event_value.specs.declared.record.KeyMark.{KeyMark}
use Rattle.event_value.specs.declared.value.Value.{Value}
use Rattle.field_forms.specs.Fields.{items_form, text_form}
use Rattle.field_forms.specs.Forms.{Form, pair_form, record_form, tested_form}
use Rattle.field_forms.specs.Numbers.{moment_form, u32_form}
use Rattle.field_forms.specs.Records.{key_mark_form}
use Rattle.field_forms.specs.Values.{values_form}
use Rattle.row_groups.specs.Keys.{key_order}

-- time, segment, index and values, in the order of their bytes
abbrev pub WaitingParts : Type 0
WaitingParts = ℕ × (ℕ × (ℕ × List Value))

-- a waiting event as its parts
abbrev pub waiting_parts : Waiting → WaitingParts
waiting_parts w = (w.time, (w.segment, (w.index, w.values)))

-- the waiting event of these parts
abbrev pub waiting_of : WaitingParts → Waiting
waiting_of p = record { time = p.0; segment = p.1.0; index = p.1.1.0; values = p.1.1.1 }

-- a waiting event
abbrev pub waiting_form : Form Waiting
waiting_form =
    record_form waiting_of waiting_parts
    (pair_form moment_form (pair_form u32_form (pair_form u32_form values_form)))

-- arrival, watermark, marks and waiting events, in the order of their bytes
abbrev pub LaneParts : Type 0
LaneParts = ℕ × (ℕ × (List KeyMark × List Waiting))

-- a lane as its parts
abbrev pub lane_parts : LaneForm → LaneParts
lane_parts l = (l.arrival, (l.watermark, (l.marks, l.waiting)))

-- the lane of these parts
abbrev pub lane_of : LaneParts → LaneForm
lane_of p = record { arrival = p.0; watermark = p.1.0; marks = p.1.1.0; waiting = p.1.1.1 }

-- a lane, its lists in any order
abbrev pub any_lane_form : Form LaneForm
any_lane_form =
    record_form lane_of lane_parts
    (pair_form moment_form (pair_form moment_form
    (pair_form (items_form key_mark_form) (items_form waiting_form))))

-- lanes, steps and upto, in the order of their bytes
abbrev pub CoreParts : Type 0
CoreParts = List LaneForm × (List (List ℕ) × ℕ)

-- a core as its parts
abbrev pub core_parts : CoreForm → CoreParts
core_parts c = (c.lanes, (c.steps, c.upto))

-- the core of these parts
abbrev pub core_of : CoreParts → CoreForm
core_of p = record { lanes = p.0; steps = p.1.0; upto = p.1.1 }

-- a core, the lists of its lanes in any order
abbrev pub any_core_form : Form CoreForm
any_core_form =
    record_form core_of core_parts
    (pair_form (items_form any_lane_form) (pair_form (items_form text_form) moment_form))

-- whether each item is below the one behind it, the first of them behind another
abbrev pub is_rising_behind : {X : Type 0} → (X → X → Ordering) → X → List X → Bool
is_rising_behind order x [] = true
is_rising_behind order x (y ∷ ys) = is_lt (order x y) && is_rising_behind order y ys

-- whether each item is below the one behind it
abbrev pub is_rising : {X : Type 0} → (X → X → Ordering) → List X → Bool
is_rising order [] = true
is_rising order (x ∷ xs) = is_rising_behind order x xs

-- marks of substreams by their keys
abbrev pub mark_order : KeyMark → KeyMark → Ordering
mark_order a b = key_order a.key b.key

-- waiting events by time, then by segment and index
abbrev pub waiting_order : Waiting → Waiting → Ordering
waiting_order a b =
    ordering_then (ordering_then (nat_cmp a.time b.time) (nat_cmp a.segment b.segment))
    (nat_cmp a.index b.index)

-- whether the lists of a lane are in order, nothing twice
abbrev pub is_lane_in_order : LaneForm → Bool
is_lane_in_order l = is_rising mark_order l.marks && is_rising waiting_order l.waiting

-- whether the lists of each lane are in order, nothing twice
abbrev pub is_core_in_order : CoreForm → Bool
is_core_in_order c = list_all is_lane_in_order c.lanes

-- a core
abbrev pub core_form : Form CoreForm
core_form = tested_form is_core_in_order any_core_form
