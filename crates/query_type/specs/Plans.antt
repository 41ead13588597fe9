-- The plan of a script, and all its faults: the plan is the answer where there is none, and else the least.
use Rattle.std.specs.Prelude.{map, ℕ, ◌-◌, ◌==◌, Bool, true, false, ◌&&◌, ◌||◌, nat_le, if◌then◌else◌, Option, Some, None, Result, List, [], ◌∷◌, ◌++◌, length, slice_get}
use Rattle.std.specs.Str.{bytes_eq}
use Rattle.query_plan.specs.declared.plan.Output.{Output}
use Rattle.query_plan.specs.declared.plan.Plan.{Plan}
use Rattle.query_plan.specs.declared.plan.StreamUse.{StreamUse}
use Rattle.input_types.specs.declared.inputs.Inputs.{Inputs}
use Rattle.query_tree.specs.declared.name.Name.{Name}
use Rattle.query_tree.specs.declared.script.Def.{Def}
use Rattle.query_tree.specs.declared.script.MoreStmt.{MoreStmt}
use Rattle.query_tree.specs.declared.script.Script.{Script}
use Rattle.query_tree.specs.declared.script.Stmt.{Stmt}
use Rattle.query_tree.specs.declared.script.With.{With}
use Rattle.query_forms.specs.declared.fault.Fault.{Fault}
use Rattle.query_forms.specs.declared.fault.Cause.{Cause}
use Rattle.query_forms.specs.declared.fault.Cause.TheVariants as cause
use Rattle.query_forms.specs.Faults.{least}
use Rattle.query_sources.specs.declared.draft.Draft.{Draft}
use Rattle.query_sources.specs.declared.draft.Mention.{Mention}
use Rattle.query_sources.specs.declared.draft.Stamping.{Stamping}
use Rattle.query_sources.specs.declared.draft.Stamping.TheVariants.{Arrival, By, Refused}
use Rattle.query_sources.specs.declared.known.KnownSource.{KnownSource}
use Rattle.query_sources.specs.declared.known.Origin.TheVariants.{Definition}
use Rattle.query_sources.specs.declared.known.References.{References}
use Rattle.query_sources.specs.declared.known.ResultColumn.{ResultColumn}
use Rattle.query_sources.specs.declared.known.Streams.{Streams}
use Rattle.query_type.specs.declared.plans.Progress.{Progress}
use Rattle.query_type.specs.declared.type_err.TypeErr.{TypeErr}
use Rattle.query_sources.specs.Drafts.{noted_at}
use Rattle.query_type.specs.Items.{column_names}
use Rattle.query_sources.specs.Known.{references_of, streams_of}
use Rattle.query_type.specs.Refusals.{answer_of}
use Rattle.query_sources.specs.ScriptNames.{names_of_script}
use Rattle.query_type.specs.Selects.{columns_of, select_read}
use Rattle.query_sources.specs.Stamps.{faults_of_mentions}
use Rattle.query_type.specs.Unions.{columns_from, columns_of_union, joined_from, union_read}

-- ---- the sources of the inputs

abbrev pub draft_of_streams : Streams → Draft
draft_of_streams st = record {
  faults = [];
  mentions = [];
  steps = st.steps;
  last = 0;
  count = length st.steps;
}

abbrev pub progress_of_inputs : Streams → References → Progress
progress_of_inputs st references = record {
  known = references.known;
  outputs = [];
  used = st.used;
  references = references.used;
  draft = draft_of_streams st;
}

-- the source steps of the streams that the script names, and the references that it names
unfoldable pub opened : Script → Inputs → Progress
opened s i =
    let names = names_of_script s in
    let streams = streams_of names i.streams in
    progress_of_inputs streams (references_of names streams.known i.references)

abbrev pub with_draft : Draft → Progress → Progress
with_draft d p = record p { draft = d }

abbrev pub with_fault_at : ℕ → Cause → Progress → Progress
with_fault_at place r p = with_draft (noted_at place r p.draft) p

-- ---- WITH

abbrev pub is_known : List KnownSource → List ℕ → Bool
is_known [] name = false
is_known (s ∷ ss) name = bytes_eq s.name name || is_known ss name

-- a name that an input or an earlier definition has
abbrev pub known_noted : Name → Progress → Progress
known_noted name p =
    if is_known p.known name.text then with_fault_at name.place cause.NameTwice p else p

abbrev pub definition : List ℕ → ℕ → List ResultColumn → KnownSource
definition name step columns =
    record { name = name; origin = Definition; step = step; columns = columns }

abbrev pub defined : Def → List ResultColumn → Draft → Progress → Progress
defined def columns d p = record p {
  known = p.known ++ definition def.name.text d.last columns ∷ [];
  draft = d;
}

abbrev pub defined_after : Def → Progress → Progress
defined_after def p =
    defined def (columns_of_union p.known def.union) (union_read p.known def.union p.draft) p

-- a definition may name those before it
unfoldable pub definition_read : Progress → Def → Progress
definition_read p def = defined_after def (known_noted def.name p)

-- how many names WITH may define
abbrev pub max_definitions : ℕ
max_definitions = 16

abbrev pub excess_definition_noted : Option Def → Progress → Progress
excess_definition_noted None p = p
excess_definition_noted (Some def) p = with_fault_at def.name.place cause.TooMany p

abbrev pub definitions_noted : List Def → Progress → Progress
definitions_noted more p = excess_definition_noted (slice_get more (max_definitions - 1)) p

abbrev pub definitions_read : Progress → List Def → Progress
definitions_read p [] = p
definitions_read p (def ∷ more) = definitions_read (definition_read p def) more

abbrev pub with_read : With → Progress → Progress
with_read w p = definitions_read (definition_read (definitions_noted w.more p) w.first) w.more

abbrev pub perhaps_with_read : Option With → Progress → Progress
perhaps_with_read None p = p
perhaps_with_read (Some w) p = with_read w p

-- ---- statements

-- ASCII letters, digits, `_` and `-`
abbrev pub is_output_byte : ℕ → Bool
is_output_byte b =
    (nat_le 97 b && nat_le b 122) || (nat_le 65 b && nat_le b 90) || (nat_le 48 b && nat_le b 57)
    || (b == 95) || (b == 45)

abbrev pub is_output_name : List ℕ → Bool
is_output_name [] = true
is_output_name (b ∷ bs) = is_output_byte b && is_output_name bs

abbrev pub output_name_noted : Name → Progress → Progress
output_name_noted name p =
    if is_output_name name.text then p else with_fault_at name.place cause.Unsupported p

abbrev pub is_output : List Output → List ℕ → Bool
is_output [] name = false
is_output (o ∷ os) name = bytes_eq o.name name || is_output os name

abbrev pub output_twice_noted : Name → Progress → Progress
output_twice_noted name p =
    if is_output p.outputs name.text then with_fault_at name.place cause.NameTwice p else p

-- how many outputs a script may have
abbrev pub max_outputs : ℕ
max_outputs = 8

abbrev pub output_count_noted : ℕ → Progress → Progress
output_count_noted place p =
    if length p.outputs == max_outputs then with_fault_at place cause.TooMany p else p

abbrev pub text_of_name : Name → List ℕ
text_of_name n = n.text

abbrev pub texts_of : List Name → List (List ℕ)
texts_of names = map text_of_name names

abbrev pub output : List ℕ → ℕ → List ResultColumn → Output
output name step columns =
    record { name = name; step = step; names = texts_of (column_names columns) }

abbrev pub with_output : List ℕ → List ResultColumn → Draft → Progress → Progress
with_output name columns d p = record p {
  outputs = p.outputs ++ output name d.last columns ∷ [];
  draft = d;
}

abbrev pub columns_of_statement : List KnownSource → Stmt → List ResultColumn
columns_of_statement known s = columns_from known (columns_of known s.items s.tail) s.more

abbrev pub draft_of_statement : List KnownSource → Stmt → Draft → Draft
draft_of_statement known s d =
    joined_from known (columns_of known s.items s.tail) s.more
    (select_read known s.place false s.items s.tail d)

-- the selects of a statement, and its output
abbrev pub body_read : Stmt → Progress → Progress
body_read s p =
    with_output s.output.text (columns_of_statement p.known s) (draft_of_statement p.known s p.draft) p

unfoldable pub statement_read : Progress → Stmt → Progress
statement_read p s =
    body_read s
    (output_twice_noted s.output
    (output_name_noted s.output
    (output_count_noted s.place p)))

abbrev pub statements_read : Progress → List MoreStmt → Progress
statements_read p [] = p
statements_read p (m ∷ more) = statements_read (statement_read p m.stmt) more

-- the whole script
unfoldable pub script_read : Script → Inputs → Progress
script_read s i =
    statements_read (statement_read (perhaps_with_read s.with (opened s i)) s.first) s.more

-- ---- the plan and the faults

abbrev pub unstamped : ℕ → StreamUse
unstamped stream = record { stream = stream; stamp = None; over = [] }

abbrev pub use_of_stamping : ℕ → Stamping → StreamUse
use_of_stamping stream (By e columns) =
    record { stream = stream; stamp = Some e; over = columns }
use_of_stamping stream Arrival = unstamped stream
use_of_stamping stream Refused = unstamped stream

-- the use of a stream, as its first mention says
abbrev pub use_of : List Mention → ℕ → StreamUse
use_of [] stream = unstamped stream
use_of (m ∷ ms) stream =
    if m.stream == stream then use_of_stamping stream m.stamping else use_of ms stream

abbrev pub uses_of : List Mention → List ℕ → List StreamUse
uses_of mentions [] = []
uses_of mentions (stream ∷ more) = use_of mentions stream ∷ uses_of mentions more

-- the plan of what was read
abbrev pub finished : Progress → Plan
finished p = record {
  streams = uses_of p.draft.mentions p.used;
  references = p.references;
  steps = p.draft.steps;
  outputs = p.outputs;
}

abbrev pub faults_of : Draft → List Fault
faults_of d = d.faults ++ faults_of_mentions d.mentions d.mentions

-- all faults of a script
abbrev pub faults_of_script : Script → Inputs → List Fault
faults_of_script s i = faults_of (script_read s i).draft

-- its plan, where it has none
abbrev pub plan_of_script : Script → Inputs → Plan
plan_of_script s i = finished (script_read s i)

-- the plan where there is no fault, and else the least
unfoldable pub plan_or_fault : Script → Inputs → Result Plan TypeErr
plan_or_fault s i = answer_of (least (faults_of_script s i)) (plan_of_script s i)
