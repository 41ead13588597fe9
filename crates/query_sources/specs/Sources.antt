-- What stands behind FROM and JOIN: the scope of a select, the streams that it names, the faults.
use Rattle.std.specs.Prelude.{map, ℕ, ◌+◌, Bool, true, false, is_some, if◌then◌else◌, Option, Some, None, List, [], ◌∷◌, ◌++◌, length}
use Rattle.query_tree.specs.declared.name.Name.{Name}
use Rattle.query_tree.specs.declared.select.Tail.{Tail}
use Rattle.query_tree.specs.declared.source.Alias.{Alias}
use Rattle.query_tree.specs.declared.source.Join.{Join}
use Rattle.query_tree.specs.declared.source.Source.{Source}
use Rattle.query_tree.specs.declared.source.Stamp.{Stamp}
use Rattle.query_forms.specs.declared.fault.Cause.TheVariants as cause
use Rattle.query_readings.specs.declared.scope.Scope.{Scope}
use Rattle.query_readings.specs.declared.scope.ScopeColumn.{ScopeColumn}
use Rattle.query_readings.specs.declared.scope.ScopeSource.{ScopeSource}
use Rattle.query_sources.specs.declared.draft.Draft.{Draft}
use Rattle.query_sources.specs.declared.draft.Mention.{Mention}
use Rattle.query_sources.specs.declared.draft.Stamping.{Stamping}
use Rattle.query_sources.specs.declared.draft.Stamping.TheVariants.{Arrival}
use Rattle.query_sources.specs.declared.known.KnownSource.{KnownSource}
use Rattle.query_sources.specs.declared.known.Origin.{Origin}
use Rattle.query_sources.specs.declared.known.Origin.TheVariants as origin
use Rattle.query_sources.specs.declared.known.ResultColumn.{ResultColumn}
use Rattle.query_sources.specs.Drafts.{mentioned, noted_at}
use Rattle.query_sources.specs.Known.{known_named}
use Rattle.query_sources.specs.Names.{noted_repeats}
use Rattle.query_sources.specs.Stamps.{stamp_noted, stamping}

abbrev pub qualifier_with : Name → Option Alias → Name
qualifier_with name None = name
qualifier_with name (Some alias) = alias.name

-- the alias, or else the source's own name
abbrev pub qualifier : Source → Name
qualifier s = qualifier_with s.name s.alias

-- ---- the scope

-- columns from this place of a row on
abbrev pub columns_at : ℕ → List ResultColumn → List ScopeColumn
columns_at n [] = []
columns_at n (c ∷ cs) =
    record { name = c.name.text; kind = c.kind; column = n } ∷ columns_at (n + 1) cs

-- how many columns sources have
abbrev pub width_from : ℕ → List ScopeSource → ℕ
width_from n [] = n
width_from n (s ∷ ss) = width_from (n + length s.columns) ss

abbrev pub width : List ScopeSource → ℕ
width sources = width_from 0 sources

abbrev pub columns_of_known : ℕ → Option KnownSource → List ScopeColumn
columns_of_known n None = []
columns_of_known n (Some k) = columns_at n k.columns

abbrev pub scope_source : Option KnownSource → ℕ → Source → ScopeSource
scope_source known n s = record {
  name = (qualifier s).text;
  known = is_some known;
  columns = columns_of_known n known;
}

abbrev pub with_scope_source : List KnownSource → List ScopeSource → Source → List ScopeSource
with_scope_source known sources s =
    sources ++ scope_source (known_named known s.name.text) (width sources) s ∷ []

abbrev pub scope_sources_from : List KnownSource → List ScopeSource → List Join → List ScopeSource
scope_sources_from known sources [] = sources
scope_sources_from known sources (j ∷ js) =
    scope_sources_from known (with_scope_source known sources j.source) js

abbrev pub scope_of : Bool → List ScopeSource → Scope
scope_of timed sources = record { sources = sources; timed = timed; keys = []; aggregates = [] }

-- the columns of the sources of a select, one behind the other
unfoldable pub scope_of_tail : List KnownSource → Tail → Scope
scope_of_tail known t =
    scope_of true (scope_sources_from known (with_scope_source known [] t.source) t.joins)

-- ---- mentions and faults

abbrev pub refused_stamp_noted : Option Stamp → Draft → Draft
refused_stamp_noted None d = d
refused_stamp_noted (Some s) d = noted_at s.place cause.Unsupported d

-- a TIMESTAMP BY names the columns of its stream alone, and no time
abbrev pub stamp_scope : KnownSource → Source → Scope
stamp_scope known s = scope_of false (scope_source (Some known) 0 s ∷ [])

abbrev pub mention : ℕ → ℕ → Stamping → Mention
mention place stream st = record { place = place; stream = stream; stamping = st }

abbrev pub stamp_mentioned : Scope → ℕ → ℕ → Option Stamp → Draft → Draft
stamp_mentioned scope place stream None d = mentioned (mention place stream Arrival) d
stamp_mentioned scope place stream (Some s) d =
    mentioned (mention place stream (stamping scope s)) (stamp_noted scope s d)

abbrev pub stream_mentioned : KnownSource → ℕ → Source → Draft → Draft
stream_mentioned known stream s d =
    stamp_mentioned (stamp_scope known s) s.name.place stream s.stamp d

-- a reference that isn't joined is refused
abbrev pub reference_noted : Bool → ℕ → Draft → Draft
reference_noted joined place d = if joined then d else noted_at place cause.Unsupported d

abbrev pub known_mentioned_as : Origin → KnownSource → Bool → Source → Draft → Draft
known_mentioned_as (origin.Stream stream) known joined s d = stream_mentioned known stream s d
known_mentioned_as origin.Definition known joined s d = refused_stamp_noted s.stamp d
known_mentioned_as (origin.Reference number) known joined s d =
    refused_stamp_noted s.stamp (reference_noted joined s.name.place d)

abbrev pub known_mentioned : KnownSource → Bool → Source → Draft → Draft
known_mentioned known joined s d = known_mentioned_as known.origin known joined s d

abbrev pub source_found : Option KnownSource → Bool → Source → Draft → Draft
source_found None joined s d = noted_at s.name.place cause.UnknownSource d
source_found (Some known) joined s d = known_mentioned known joined s d

abbrev pub source_mentioned : List KnownSource → Bool → Source → Draft → Draft
source_mentioned known joined s d = source_found (known_named known s.name.text) joined s d

abbrev pub joins_mentioned : List KnownSource → List Join → Draft → Draft
joins_mentioned known [] d = d
joins_mentioned known (j ∷ js) d =
    joins_mentioned known js (source_mentioned known true j.source d)

abbrev pub qualifier_of_join : Join → Name
qualifier_of_join j = qualifier j.source

abbrev pub qualifiers : Tail → List Name
qualifiers t = qualifier t.source ∷ map qualifier_of_join t.joins

-- the sources of a select, with the faults in them
unfoldable pub tail_mentioned : List KnownSource → Tail → Draft → Draft
tail_mentioned known t d =
    noted_repeats (qualifiers t)
    (joins_mentioned known t.joins (source_mentioned known false t.source d))
