-- The text of a preview (docs/GUIDE, "Printed text").
use Rattle.std.specs.Prelude.{ℕ, List, [], ◌++◌, codes, slice_get, Option, Some, None}
use Rattle.std.specs.List.{flat_map, zip}
use Rattle.checkpoint_form.specs.declared.batch.Row.{Row}
use Rattle.value_text.specs.Printed.{dropped_text}
use Rattle.query_plan.specs.declared.plan.Output.{Output}
use Rattle.event_value.specs.declared.record.Dropped.{Dropped}
use Rattle.input_types.specs.declared.inputs.Stream.{Stream}

-- a row, in its printed form, on a line
abbrev pub row_line : Row → List ℕ
row_line row = row.text ++ codes "\n"

-- an output on a line, and its rows
abbrev pub output_text : Output → List Row → List ℕ
output_text output rows = codes "output " ++ output.name ++ codes "\n" ++ flat_map row_line rows

-- the outputs in order, each with its rows
abbrev pub outputs_text : List Output → List (List Row) → List ℕ
outputs_text outputs rows = flat_map (λ one. output_text one.0 one.1) (zip outputs rows)

-- the name of a stream, by its place in the document: the empty text where there is no such stream
abbrev pub name_of : Option Stream → List ℕ
name_of None = []
name_of (Some stream) = stream.name

abbrev pub stream_name : List Stream → ℕ → List ℕ
stream_name streams number = name_of (slice_get streams number)

-- a dropped record on a line
abbrev pub dropped_line : List Stream → Dropped → List ℕ
dropped_line streams dropped = dropped_text (stream_name streams dropped.stream) dropped ++ codes "\n"

-- the dropped records in their order
abbrev pub drops_text : List Stream → List Dropped → List ℕ
drops_text streams drops = flat_map (dropped_line streams) drops

-- the outputs with their rows, and then the dropped records
abbrev pub preview_text : List Output → List (List Row) → List Stream → List Dropped → List ℕ
preview_text outputs rows streams drops =
    outputs_text outputs rows ++ codes "drops\n" ++ drops_text streams drops
