-- What an expression is over the rows and over the groups, made of what its parts are.
use Rattle.std.specs.Prelude.{ℕ, Bool, true, ◌&&◌, ◌==◌, if◌then◌else◌, Option, Some, None, Ok, Err, List, [], ◌∷◌, ◌++◌}
use Rattle.std.specs.Str.{bytes_eq}
use Rattle.event_value.specs.declared.kind.Kind.{Kind}
use Rattle.event_value.specs.declared.kind.Kind.TheVariants as kind
use Rattle.event_value.specs.declared.value.Value.TheVariants as value
use Rattle.query_plan.specs.declared.expr.Expr.{Expr}
use Rattle.query_plan.specs.declared.expr.Expr.TheVariants as expr
use Rattle.event_value.specs.declared.aggregate.AggKind.{AggKind}
use Rattle.event_value.specs.declared.aggregate.AggKind.TheVariants as agg
use Rattle.query_tree.specs.declared.name.Name.{Name}
use Rattle.query_tree.specs.declared.name.Path.{Path}
use Rattle.query_readings.specs.declared.columns.Finding.{Finding}
use Rattle.query_readings.specs.declared.columns.Finding.TheVariants as finding
use Rattle.query_readings.specs.declared.columns.Found.{Found}
use Rattle.query_readings.specs.declared.columns.Found.TheVariants as found
use Rattle.query_forms.specs.declared.fault.Fault.{Fault}
use Rattle.query_forms.specs.declared.fault.Cause.{Cause}
use Rattle.query_forms.specs.declared.fault.Cause.TheVariants as cause
use Rattle.query_forms.specs.declared.form.Form.{Form}
use Rattle.query_readings.specs.declared.reading.AggregateCall.{AggregateCall}
use Rattle.query_readings.specs.declared.reading.Face.{Face}
use Rattle.query_readings.specs.declared.reading.Face.TheVariants as face
use Rattle.query_readings.specs.declared.reading.Part.{Part}
use Rattle.query_readings.specs.declared.reading.Reading.{Reading}
use Rattle.query_readings.specs.declared.reading.Side.{Side}
use Rattle.query_readings.specs.declared.reading.Side.TheVariants.{Rows, Groups}
use Rattle.query_readings.specs.declared.scope.AggregateColumn.{AggregateColumn}
use Rattle.query_readings.specs.declared.scope.GroupKey.{GroupKey}
use Rattle.query_readings.specs.declared.scope.Scope.{Scope}
use Rattle.query_readings.specs.declared.scope.ScopeColumn.{ScopeColumn}
use Rattle.query_readings.specs.declared.scope.ScopeSource.{ScopeSource}
use Rattle.query_forms.specs.declared.sense.Sense.{Sense}
use Rattle.query_forms.specs.declared.sense.Sense.TheVariants.{Value, Condition}
use Rattle.query_forms.specs.declared.sense.Valued.{Valued}
use Rattle.query_forms.specs.Faults.{Checked, and_then, refused}
use Rattle.query_readings.specs.Functions.{is_time}
use Rattle.query_forms.specs.Kinds.{is_number}
use Rattle.query_readings.specs.Same.{is_same_expr}
use Rattle.query_forms.specs.Senses.{shaped, valued}

abbrev pub Outcome : Type 0
Outcome = Checked Sense

-- ---- several parts

abbrev pub outcome_of : Side → Reading → Outcome
outcome_of Rows r = r.rows
outcome_of Groups r = r.groups

abbrev pub faults_in : Outcome → List Fault
faults_in (Ok s) = []
faults_in (Err faults) = faults

abbrev pub senses_in : Outcome → List Sense
senses_in (Ok s) = s ∷ []
senses_in (Err faults) = []

abbrev pub faults_of : Side → List Reading → List Fault
faults_of side [] = []
faults_of side (r ∷ rs) = faults_in (outcome_of side r) ++ faults_of side rs

abbrev pub senses_of : Side → List Reading → List Sense
senses_of side [] = []
senses_of side (r ∷ rs) = senses_in (outcome_of side r) ++ senses_of side rs

abbrev pub unless_faults : List Fault → List Sense → Checked (List Sense)
unless_faults [] senses = Ok senses
unless_faults (f ∷ fs) senses = Err (f ∷ fs)

-- the senses of all parts, or the faults of all
unfoldable pub checked_senses : Side → List Reading → Checked (List Sense)
checked_senses side parts = unless_faults (faults_of side parts) (senses_of side parts)

abbrev pub calls_of : List Reading → List AggregateCall
calls_of [] = []
calls_of (r ∷ rs) = r.calls ++ calls_of rs

abbrev pub shaped_side : ℕ → Form → Side → List Reading → Outcome
shaped_side place f side parts = and_then (checked_senses side parts) (shaped place f)

-- for private clauses: the same of two parts, by what each is
abbrev pub shaped_pair : ℕ → Form → Outcome → Outcome → Outcome
shaped_pair place f left right =
    and_then (unless_faults (faults_in left ++ faults_in right) (senses_in left ++ senses_in right))
    (shaped place f)

-- ---- group expressions

-- a column as a value
abbrev pub column_sense : ℕ → Option Kind → Sense
column_sense n k = Value (valued (expr.Col n) k)

-- the column of the first group expression that is the same
abbrev pub key_from : List GroupKey → Expr → Option Sense
key_from [] e = None
key_from (key ∷ keys) e =
    if is_same_expr key.expr e then Some (column_sense key.column key.kind) else key_from keys e

abbrev pub key_of_sense : List GroupKey → Sense → Option Sense
key_of_sense keys (Value v) = key_from keys v.expr
key_of_sense keys (Condition c) = None

abbrev pub key_of : List GroupKey → Outcome → Option Sense
key_of keys (Ok s) = key_of_sense keys s
key_of keys (Err faults) = None

abbrev pub or_key : Option Sense → Outcome → Outcome
or_key None groups = groups
or_key (Some s) groups = Ok s

-- over the groups: the column of the group expression that it equals, or else what its parts give
unfoldable pub keyed : Scope → ℕ → Outcome → Outcome → List AggregateCall → Face → Reading
keyed scope place rows groups calls written = record {
  place = place;
  rows = rows;
  groups = or_key (key_of scope.keys rows) groups;
  calls = calls;
  face = written;
}

-- ---- forms

-- an expression of a form with these parts
unfoldable pub formed : Scope → ℕ → Form → List Reading → Reading
formed scope place f parts =
    keyed scope place (shaped_side place f Rows parts) (shaped_side place f Groups parts)
    (calls_of parts) face.Other

-- for private clauses: two parts in a form, the first by what it is
abbrev pub joined : Scope → ℕ → Form → Outcome → Outcome → List AggregateCall → Reading → Reading
joined scope place f rows groups calls right =
    keyed scope place (shaped_pair place f rows right.rows) (shaped_pair place f groups right.groups)
    (calls ++ right.calls) face.Other

abbrev pub formed_of_one : Scope → ℕ → Form → Reading → Reading
formed_of_one scope place f part = formed scope place f (part ∷ [])

abbrev pub formed_of_two : Scope → ℕ → Form → Reading → Reading → Reading
formed_of_two scope place f left right = formed scope place f (left ∷ right ∷ [])

-- a chain of one form, from the left
unfoldable pub chain : Scope → ℕ → Form → Reading → List Reading → Reading
chain scope place f so_far [] = so_far
chain scope place f so_far (r ∷ rs) =
    chain scope place f (formed_of_two scope place f so_far r) rs

-- a chain of parts each with its own form, from the left
unfoldable pub operations : Scope → ℕ → Reading → List Part → Reading
operations scope place so_far [] = so_far
operations scope place so_far (p ∷ ps) =
    operations scope place (formed_of_two scope place p.form so_far p.reading) ps

-- the same over rows and groups
abbrev pub plain : Scope → ℕ → Sense → Face → Reading
plain scope place s written = keyed scope place (Ok s) (Ok s) [] written

abbrev pub refused_reading : ℕ → Cause → Reading
refused_reading place r = record {
  place = place;
  rows = refused place r;
  groups = refused place r;
  calls = [];
  face = face.Other;
}

-- ---- columns

abbrev pub column_in : List ScopeColumn → List ℕ → Option (ℕ × Option Kind)
column_in [] name = None
column_in (c ∷ cs) name = if bytes_eq c.name name then Some (c.column, c.kind) else column_in cs name

abbrev pub with_found : Found → Option (ℕ × Option Kind) → Found
with_found f None = f
with_found found.Nowhere (Some c) = found.Once c.0 c.1
with_found (found.Once n k) (Some c) = found.Twice
with_found found.Twice (Some c) = found.Twice

-- in how many sources a column of this name stands
abbrev pub found_from : Found → List ScopeSource → List ℕ → Found
found_from so_far [] name = so_far
found_from so_far (s ∷ ss) name = found_from (with_found so_far (column_in s.columns name)) ss name

-- a column of a source that is named: nothing is decided of a source that is unknown
abbrev pub finding_in_source : ScopeSource → Option (ℕ × Option Kind) → Finding
finding_in_source s (Some c) = finding.Column c.0 c.1
finding_in_source s None =
    if s.known then finding.Missing cause.UnknownColumn else finding.Undecided

-- a column behind the name of a source: the first source of this name has it or nobody
abbrev pub qualified_in : List ScopeSource → List ℕ → List ℕ → Finding
qualified_in [] source name = finding.Missing cause.UnknownColumn
qualified_in (s ∷ ss) source name =
    if bytes_eq s.name source then finding_in_source s (column_in s.columns name)
    else qualified_in ss source name

abbrev pub are_known : List ScopeSource → Bool
are_known [] = true
are_known (s ∷ ss) = s.known && are_known ss

-- a column that no source has isn't refused where a source is unknown
abbrev pub missing : List ScopeSource → Finding
missing sources = if are_known sources then finding.Missing cause.UnknownColumn else finding.Undecided

abbrev pub finding_of_found : List ScopeSource → Found → Finding
finding_of_found sources found.Nowhere = missing sources
finding_of_found sources (found.Once n k) = finding.Column n k
finding_of_found sources found.Twice = finding.Missing cause.Ambiguous

abbrev pub finding_with : List ScopeSource → Name → Option Name → Finding
finding_with sources first None =
    finding_of_found sources (found_from found.Nowhere sources first.text)
finding_with sources first (Some second) =
    qualified_in sources first.text second.text

-- what a path finds among the sources
unfoldable pub finding_of : List ScopeSource → Path → Finding
finding_of sources path = finding_with sources path.first path.second

-- stands for a value that another fault leaves open
abbrev pub undecided : Option Kind → Sense
undecided k = Value (valued (expr.Lit value.Null) k)

abbrev pub column_over_rows : ℕ → Finding → Outcome
column_over_rows place (finding.Column n k) = Ok (column_sense n k)
column_over_rows place finding.Undecided = Ok (undecided None)
column_over_rows place (finding.Missing r) = refused place r

abbrev pub column_over_groups : ℕ → Finding → Outcome
column_over_groups place (finding.Column n k) = refused place cause.NotGrouped
column_over_groups place finding.Undecided = Ok (undecided None)
column_over_groups place (finding.Missing r) = refused place r

abbrev pub column_face_with : Name → Option Name → Face
column_face_with first None = face.Word first.text
column_face_with first (Some second) = face.Qualified second.text

abbrev pub column_face : Path → Face
column_face path = column_face_with path.first path.second

-- a column: over the groups it is refused unless it is a group expression
unfoldable pub named_column : Scope → Path → Reading
named_column scope path =
    let f = finding_of scope.sources path in
    keyed scope path.place (column_over_rows path.place f) (column_over_groups path.place f) []
    (column_face path)

-- the time of a row or of a group
unfoldable pub time_reading : Scope → ℕ → Reading
time_reading scope place =
    if scope.timed then plain scope place (Value (valued expr.Stamp (Some kind.Moment))) face.Other
    else refused_reading place cause.Unsupported

unfoldable pub column_reading : Scope → Path → Reading
column_reading scope path =
    if is_time path then time_reading scope path.place else named_column scope path

-- ---- patterns

-- what a text that is written out is over the rows it is over the groups, whatever it equals there
abbrev pub pattern_over_groups : Face → Outcome → Outcome → Outcome
pattern_over_groups face.Literal rows groups = rows
pattern_over_groups (face.Word name) rows groups = groups
pattern_over_groups (face.Qualified name) rows groups = groups
pattern_over_groups face.Other rows groups = groups

-- what stands on the right of LIKE: a text that is written out is no group expression there
unfoldable pub as_pattern : Reading → Reading
as_pattern r = record r { groups = pattern_over_groups r.face r.rows r.groups }

-- ---- aggregates

abbrev pub is_aggregable : AggKind → Option Kind → Bool
is_aggregable agg.Sum k = is_number k
is_aggregable agg.Avg k = is_number k
is_aggregable agg.Count k = true
is_aggregable agg.CountDistinct k = true
is_aggregable agg.Min k = true
is_aggregable agg.Max k = true

-- the kind of an aggregate of values of a kind
abbrev pub aggregate_kind : AggKind → Option Kind → Option Kind
aggregate_kind agg.Count k = Some kind.Big
aggregate_kind agg.CountDistinct k = Some kind.Big
aggregate_kind agg.Sum k = k
aggregate_kind agg.Avg k = Some kind.Fixed
aggregate_kind agg.Min k = k
aggregate_kind agg.Max k = k

abbrev pub argument_in : ℕ → AggKind → Sense → Checked Valued
argument_in place a (Value v) = if is_aggregable a v.kind then Ok v else refused place cause.Kind
argument_in place a (Condition c) = refused place cause.Kind

abbrev pub argument_of : ℕ → AggKind → List Sense → Checked Valued
argument_of place a (s ∷ []) = argument_in place a s
argument_of place a _ = refused place cause.Kind

-- the argument of an aggregate is read over the rows
unfoldable pub aggregate_argument : ℕ → AggKind → List Reading → Checked Valued
aggregate_argument place a parts = and_then (checked_senses Rows parts) (argument_of place a)

abbrev pub column_of_call : List AggregateColumn → ℕ → Option ℕ
column_of_call [] place = None
column_of_call (c ∷ cs) place = if c.place == place then Some c.column else column_of_call cs place

abbrev pub or_undecided : Option ℕ → Option Kind → Sense
or_undecided None k = undecided k
or_undecided (Some n) k = column_sense n k

-- over the groups: the column that has the aggregate's values
abbrev pub aggregate_sense : Scope → ℕ → Option Kind → Sense
aggregate_sense scope place k = or_undecided (column_of_call scope.aggregates place) k

abbrev pub aggregate_call : ℕ → AggKind → Option Expr → AggregateCall
aggregate_call place a argument = record { place = place; kind = a; argument = argument }

abbrev pub aggregate_reading : Scope → ℕ → Option Kind → AggregateCall → Reading
aggregate_reading scope place k call = record {
  place = place;
  rows = refused place cause.Aggregate;
  groups = Ok (aggregate_sense scope place k);
  calls = call ∷ [];
  face = face.Other;
}

abbrev pub refused_by : ℕ → List Fault → Reading
refused_by place faults = record {
  place = place;
  rows = Err faults;
  groups = Err faults;
  calls = [];
  face = face.Other;
}

abbrev pub aggregate_of : Scope → ℕ → AggKind → Checked Valued → Reading
aggregate_of scope place a (Ok v) =
    aggregate_reading scope place (aggregate_kind a v.kind) (aggregate_call place a (Some v.expr))
aggregate_of scope place a (Err faults) = refused_by place faults

unfoldable pub aggregate : Scope → ℕ → AggKind → List Reading → Reading
aggregate scope place a parts = aggregate_of scope place a (aggregate_argument place a parts)

-- the number of the rows
unfoldable pub row_count : Scope → ℕ → Reading
row_count scope place =
    aggregate_reading scope place (Some kind.Big) (aggregate_call place agg.Count None)
