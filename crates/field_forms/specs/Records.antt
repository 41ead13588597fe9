-- Rules, places, dropped records, marks of substreams and rows as bytes (docs/FORMATS, "Records").
--
-- A rule:
--   OFFSET  SIZE  MEANING
--        0     1  1 syntax, 2 enqueued, 3 number, 4 field, 5 long, 6 damaged, 7 segment too long,
--                 8 no time, 9 early, 10 late, 11 disorder
--
-- A position:
--   OFFSET  SIZE  MEANING
--        0     4  segment
--        4     4  index
--
-- A dropped record:
--   OFFSET  SIZE  MEANING
--        0     2  stream
--        2     2  partition
--        4     4  segment
--        8     4  index
--       12     1  rule
--
-- The mark of a substream:
--   OFFSET  SIZE  MEANING
--        0     .  key: a list of values
--        .     8  mark: a moment
--
-- A row with its time:
--   OFFSET  SIZE  MEANING
--        0     8  time: a moment
--        8     .  values: a list of values
use Rattle.std.specs.Prelude.{ℕ, Bool, true, ◌&&◌, ◌==◌, nat_le, if◌then◌else◌, List}
use Rattle.event_value.specs.declared.record.Dropped.{Dropped}
use Rattle.event_value.specs.declared.record.KeyMark.{KeyMark}
use Rattle.event_value.specs.declared.record.Position.{Position}
use Rattle.event_value.specs.declared.record.Rule.{Rule}
use Rattle.event_value.specs.declared.record.Rule.TheVariants.{Syntax, Enqueued, Number, Field, Long, Damaged, SegmentTooLong, NoTime, Early, Late, Disorder}
use Rattle.event_value.specs.declared.record.Stamped.{Stamped}
use Rattle.event_value.specs.declared.value.Value.{Value}
use Rattle.field_forms.specs.Forms.{Form, image_form, pair_form, record_form, tested_form}
use Rattle.field_forms.specs.Numbers.{moment_form, u16_form, u32_form, u8_form}
use Rattle.field_forms.specs.Values.{values_form}

-- the number of a rule
abbrev pub rule_number : Rule → ℕ
rule_number Syntax = 1
rule_number Enqueued = 2
rule_number Number = 3
rule_number Field = 4
rule_number Long = 5
rule_number Damaged = 6
rule_number SegmentTooLong = 7
rule_number NoTime = 8
rule_number Early = 9
rule_number Late = 10
rule_number Disorder = 11

-- whether a number is that of a rule
abbrev pub is_rule_number : ℕ → Bool
is_rule_number n = nat_le 1 n && nat_le n 11

-- the rule of a number
abbrev pub rule_of : ℕ → Rule
rule_of n =
    if n == 1 then Syntax else (
    if n == 2 then Enqueued else (
    if n == 3 then Number else (
    if n == 4 then Field else (
    if n == 5 then Long else (
    if n == 6 then Damaged else (
    if n == 7 then SegmentTooLong else (
    if n == 8 then NoTime else (
    if n == 9 then Early else (
    if n == 10 then Late else (
    Disorder))))))))))

-- every value passes
abbrev pub is_any : {V : Type 0} → V → Bool
is_any v = true

-- a rule
abbrev pub rule_form : Form Rule
rule_form = image_form is_any rule_of rule_number (tested_form is_rule_number u8_form)

-- the parts of a position in the order of their bytes
abbrev pub position_parts : Position → ℕ × ℕ
position_parts p = (p.segment, p.index)

-- the position of these parts
abbrev pub position_of : ℕ × ℕ → Position
position_of p = record { segment = p.0; index = p.1 }

-- the parts of a position, one behind the other
abbrev pub position_parts_form : Form (ℕ × ℕ)
position_parts_form = pair_form u32_form u32_form

-- a position
abbrev pub position_form : Form Position
position_form = record_form position_of position_parts position_parts_form

-- stream, partition, segment, index and rule, in the order of their bytes
abbrev pub DroppedParts : Type 0
DroppedParts = ℕ × (ℕ × (ℕ × (ℕ × Rule)))

-- a dropped record as its parts
abbrev pub dropped_parts : Dropped → DroppedParts
dropped_parts d = (d.stream, (d.partition, (d.segment, (d.index, d.rule))))

-- the dropped record of these parts
abbrev pub dropped_of : DroppedParts → Dropped
dropped_of p = record {
  stream = p.0;
  partition = p.1.0;
  segment = p.1.1.0;
  index = p.1.1.1.0;
  rule = p.1.1.1.1;
}

-- the parts of a dropped record, one behind the other
abbrev pub dropped_parts_form : Form DroppedParts
dropped_parts_form =
    pair_form u16_form (pair_form u16_form (pair_form u32_form (pair_form u32_form rule_form)))

-- a dropped record
abbrev pub dropped_form : Form Dropped
dropped_form = record_form dropped_of dropped_parts dropped_parts_form

-- the parts of a substream's mark in the order of their bytes
abbrev pub key_mark_parts : KeyMark → List Value × ℕ
key_mark_parts m = (m.key, m.mark)

-- the substream's mark of these parts
abbrev pub key_mark_of : List Value × ℕ → KeyMark
key_mark_of p = record { key = p.0; mark = p.1 }

-- the parts of a substream's mark, one behind the other
abbrev pub key_mark_parts_form : Form (List Value × ℕ)
key_mark_parts_form = pair_form values_form moment_form

-- the mark of a substream
abbrev pub key_mark_form : Form KeyMark
key_mark_form = record_form key_mark_of key_mark_parts key_mark_parts_form

-- the parts of a row in the order of their bytes
abbrev pub stamped_parts : Stamped → ℕ × List Value
stamped_parts r = (r.time, r.values)

-- the row of these parts
abbrev pub stamped_of : ℕ × List Value → Stamped
stamped_of p = record { time = p.0; values = p.1 }

-- the parts of a row, one behind the other
abbrev pub stamped_parts_form : Form (ℕ × List Value)
stamped_parts_form = pair_form moment_form values_form

-- a row with its time
abbrev pub stamped_form : Form Stamped
stamped_form = record_form stamped_of stamped_parts stamped_parts_form
