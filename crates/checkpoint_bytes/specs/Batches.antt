-- A batch as bytes (docs/FORMATS, "Batches").
--
--   OFFSET  SIZE  MEANING
--        0     1  form: 2, or 1
--        1     8  upto: a moment
--        9     .  outputs: a list with a list of rows for each
--        .     .  drops: a list of dropped records
--        .     .  positions: a list of positions
--        .     .  core: an option of a text; in form 1 it counts as absent
--
-- Nothing follows. A row:
--   OFFSET  SIZE  MEANING
--        0     8  time: a moment
--        8     .  text: a text
use Rattle.std.specs.Prelude.{◌≡◌, ◌⊎◌, ℕ, List, Option, Some, None}
use Rattle.checkpoint_form.specs.declared.batch.Batch.{Batch}
use Rattle.checkpoint_form.specs.declared.batch.Row.{Row}
use Rattle.event_value.specs.declared.record.Dropped.{Dropped}
use Rattle.event_value.specs.declared.record.Position.{Position}
use Rattle.field_forms.specs.Fields.{items_form, option_form, text_form}
use Rattle.field_forms.specs.Forms.{Form, alternative, no_alternative, pair_form, record_form, tagged_form}
use Rattle.field_forms.specs.Numbers.{moment_form}
use Rattle.field_forms.specs.Records.{dropped_form, position_form}
use Rattle.field_forms.specs.Spellings.{IsSpelling}

-- the parts of a row in the order of their bytes
abbrev pub row_parts : Row → ℕ × List ℕ
row_parts row = (row.time, row.text)

-- the row of these parts
abbrev pub row_of : ℕ × List ℕ → Row
row_of p = record { time = p.0; text = p.1 }

-- the parts of a row, one behind the other
abbrev pub row_parts_form : Form (ℕ × List ℕ)
row_parts_form = pair_form moment_form text_form

-- a row
abbrev pub row_form : Form Row
row_form = record_form row_of row_parts row_parts_form

-- the rows of an output
abbrev pub output_form : Form (List Row)
output_form = items_form row_form

-- upto, outputs, drops, positions and core, in the order of their bytes
abbrev pub BatchParts : Type 0
BatchParts = ℕ × (List (List Row) × (List Dropped × (List Position × Option (List ℕ))))

-- a batch as its parts
abbrev pub batch_parts : Batch → BatchParts
batch_parts b = (b.upto, (b.outputs, (b.drops, (b.positions, b.core))))

-- the batch of these parts
abbrev pub batch_of : BatchParts → Batch
batch_of p = record {
  upto = p.0;
  outputs = p.1.0;
  drops = p.1.1.0;
  positions = p.1.1.1.0;
  core = p.1.1.1.1;
}

-- the parts of a batch, one behind the other
abbrev pub batch_parts_form : Form BatchParts
batch_parts_form =
    pair_form moment_form (pair_form (items_form output_form) (pair_form (items_form dropped_form)
    (pair_form (items_form position_form) (option_form text_form))))

-- what stands behind the number of the form
abbrev pub batch_body : Form Batch
batch_body = record_form batch_of batch_parts batch_parts_form

-- a batch behind this number, and nothing behind another
abbrev pub numbered_body : ℕ → ℕ → Form Batch
numbered_body n = alternative n batch_body no_alternative

-- the number of a form, and the batch
abbrev pub numbered_form : ℕ → Form Batch
numbered_form n = tagged_form (λ _. n) (numbered_body n)

-- form 2, of which the core counts
abbrev pub batch_form : Form Batch
batch_form = numbered_form 2

-- form 1, of which the core counts as absent
abbrev pub coreless_form : Form Batch
coreless_form = numbered_form 1

-- the batch without its core
abbrev pub without_core : Batch → Batch
without_core b = record {
  upto = b.upto;
  outputs = b.outputs;
  drops = b.drops;
  positions = b.positions;
  core = None;
}

-- the bytes are those of form 1 of a batch that is this one but for its core, which is absent
abbrev pub IsCoreless : Batch → List ℕ → Type 0
IsCoreless b bytes = (c : Batch) × IsSpelling coreless_form c bytes × (b ≡ without_core c)

-- the bytes are those of the batch, in form 2 or in form 1
abbrev pub IsBatch : Batch → List ℕ → Type 0
IsBatch b bytes = IsSpelling batch_form b bytes ⊎ IsCoreless b bytes

-- the batch of form 1 whose bytes these are, without its core, or that they are no batch's
abbrev pub IsDecodedCoreless : List ℕ → Option Batch → Type 0
IsDecodedCoreless bytes None = (b : Batch) → IsCoreless b bytes → ⊥
IsDecodedCoreless bytes (Some b) = IsCoreless b bytes

-- the batch whose bytes these are, or that they are no batch's
abbrev pub IsDecoded : List ℕ → Option Batch → Type 0
IsDecoded bytes None = (b : Batch) → IsBatch b bytes → ⊥
IsDecoded bytes (Some b) = IsBatch b bytes

-- no bytes are two batches'
abbrev pub SpellsOneBatch : Type 0
SpellsOneBatch = (bytes : List ℕ) (b c : Batch) → IsBatch b bytes → IsBatch c bytes → b ≡ c
