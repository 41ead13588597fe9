-- The sources that a select may name: the streams and references of the inputs, and the names that WITH defines.
use Rattle.std.specs.Prelude.{map, ℕ, ◌+◌, if◌then◌else◌, Option, Some, None, List, [], ◌∷◌, ◌++◌, length}
use Rattle.std.specs.Str.{bytes_eq}
use Rattle.event_value.specs.declared.kind.Column.{Column}
use Rattle.query_plan.specs.declared.plan.Step.TheVariants.{Source}
use Rattle.input_types.specs.declared.inputs.Reference.{Reference}
use Rattle.input_types.specs.declared.inputs.Stream.{Stream}
use Rattle.query_tree.specs.declared.name.Name.{Name}
use Rattle.query_sources.specs.declared.known.KnownSource.{KnownSource}
use Rattle.query_sources.specs.declared.known.Origin.TheVariants as origin
use Rattle.query_sources.specs.declared.known.References.{References}
use Rattle.query_sources.specs.declared.known.ResultColumn.{ResultColumn}
use Rattle.query_sources.specs.declared.known.Streams.{Streams}
use Rattle.query_sources.specs.Names.{is_named}

abbrev pub known_named : List KnownSource → List ℕ → Option KnownSource
known_named [] name = None
known_named (s ∷ ss) name = if bytes_eq s.name name then Some s else known_named ss name

abbrev pub name_at : ℕ → List ℕ → Name
name_at place text = record { place = place; text = text }

abbrev pub declared_column : Column → ResultColumn
declared_column c = record { name = name_at 0 c.name; kind = Some c.kind }

abbrev pub declared_columns : List Column → List ResultColumn
declared_columns cs = map declared_column cs

-- a stream, by its place among the inputs, with the step that has its rows
abbrev pub stream_source : ℕ → ℕ → Stream → KnownSource
stream_source index step s = record {
  name = s.name;
  origin = origin.Stream index;
  step = step;
  columns = declared_columns s.columns;
}

abbrev pub with_known : KnownSource → Streams → Streams
with_known k st = record st { known = st.known ++ k ∷ [] }

-- one step for each stream that is named, in the order of the inputs
abbrev pub with_used : ℕ → Streams → Streams
with_used index st = record st {
  steps = st.steps ++ Source (length st.steps) ∷ [];
  used = st.used ++ index ∷ [];
}

abbrev pub with_stream : List Name → Streams → Stream → Streams
with_stream names st s =
    let added = with_known (stream_source (length st.known) (length st.steps) s) st in
    if is_named names s.name then with_used (length st.known) added else added

abbrev pub streams_from : List Name → Streams → List Stream → Streams
streams_from names st [] = st
streams_from names st (s ∷ ss) = streams_from names (with_stream names st s) ss

unfoldable pub streams_of : List Name → List Stream → Streams
streams_of names streams = streams_from names (record { known = []; steps = []; used = [] }) streams

-- a reference, by its place among those that are named
abbrev pub reference_source : ℕ → Reference → KnownSource
reference_source number r = record {
  name = r.name;
  origin = origin.Reference number;
  step = 0;
  columns = declared_columns r.columns;
}

abbrev pub with_known_reference : Reference → References → References
with_known_reference r rs =
    record rs { known = rs.known ++ reference_source (length rs.used) r ∷ [] }

abbrev pub with_used_reference : ℕ → References → References
with_used_reference place rs = record rs { used = rs.used ++ place ∷ [] }

abbrev pub with_reference : List Name → ℕ → References → Reference → References
with_reference names place rs r =
    let added = with_known_reference r rs in
    if is_named names r.name then with_used_reference place added else added

abbrev pub references_from : List Name → ℕ → References → List Reference → References
references_from names place rs [] = rs
references_from names place rs (r ∷ more) =
    references_from names (place + 1) (with_reference names place rs r) more

-- the references behind the streams, and the places of those that are named, in the order of the inputs
unfoldable pub references_of : List Name → List KnownSource → List Reference → References
references_of names streams references =
    references_from names 0 (record { known = streams; used = [] }) references
