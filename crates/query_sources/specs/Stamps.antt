-- TIMESTAMP BY: a moment over the columns of its stream; all mentions of a stream agree on it.
use Rattle.std.specs.Prelude.{ℕ, ◌==◌, nat_eq, Bool, true, false, not, ◌&&◌, if◌then◌else◌, Option, Some, None, Ok, Err, List, [], ◌∷◌, ◌++◌}
use Rattle.std.specs.Cmp.Lexicographic.{pointwise}
use Rattle.event_value.specs.declared.kind.Kind.TheVariants as kind
use Rattle.query_plan.specs.declared.expr.Expr.{Expr}
use Rattle.query_tree.specs.declared.name.Path.{Path}
use Rattle.query_tree.specs.declared.source.Over.{Over}
use Rattle.query_tree.specs.declared.source.Stamp.{Stamp}
use Rattle.query_tree.specs.declared.expr.Expr as tree
use Rattle.query_readings.specs.declared.columns.Finding.{Finding}
use Rattle.query_readings.specs.declared.columns.Finding.TheVariants as finding
use Rattle.query_forms.specs.declared.fault.Fault.{Fault}
use Rattle.query_forms.specs.declared.fault.Cause.TheVariants as cause
use Rattle.query_readings.specs.declared.scope.Scope.{Scope}
use Rattle.query_readings.specs.declared.scope.ScopeSource.{ScopeSource}
use Rattle.query_forms.specs.declared.sense.Sense.{Sense}
use Rattle.query_forms.specs.declared.sense.Sense.TheVariants.{Value, Condition}
use Rattle.query_forms.specs.Faults.{Checked, and_then, fault_at, refused}
use Rattle.query_forms.specs.Kinds.{is_of}
use Rattle.query_readings.specs.Reading.{Outcome, finding_of}
use Rattle.query_senses.specs.Readings.{reading}
use Rattle.query_readings.specs.Same.{is_same_expr}
use Rattle.query_sources.specs.declared.draft.Draft.{Draft}
use Rattle.query_sources.specs.declared.draft.Mention.{Mention}
use Rattle.query_sources.specs.declared.draft.Stamping.{Stamping}
use Rattle.query_sources.specs.declared.draft.Stamping.TheVariants.{Arrival, By, Refused}
use Rattle.query_sources.specs.declared.stamps.Columns.{Columns}
use Rattle.query_sources.specs.Drafts.{noted}

abbrev pub moment_in : ℕ → Sense → Checked Expr
moment_in place (Value v) = if is_of kind.Moment v.kind then Ok v.expr else refused place cause.Kind
moment_in place (Condition c) = refused place cause.Kind

-- a moment, or what is refused
abbrev pub moment_of : ℕ → Outcome → Checked Expr
moment_of place outcome = and_then outcome (moment_in place)

abbrev pub with_finding : ℕ → Finding → Columns → Columns
with_finding place (finding.Column n k) c = record c { found = c.found ++ n ∷ [] }
with_finding place finding.Undecided c = c
with_finding place (finding.Missing r) c = record c { faults = c.faults ++ fault_at place r ∷ [] }

abbrev pub with_column : List ScopeSource → Columns → Path → Columns
with_column sources c path = with_finding path.place (finding_of sources path) c

abbrev pub columns_from : List ScopeSource → Columns → List Path → Columns
columns_from sources c [] = c
columns_from sources c (p ∷ ps) = columns_from sources (with_column sources c p) ps

abbrev pub no_columns : Columns
no_columns = record { found = []; faults = [] }

-- the columns that are listed
abbrev pub columns_listed : List ScopeSource → Path → List Path → Columns
columns_listed sources first more =
    columns_from sources (with_column sources no_columns first) more

-- the columns behind OVER
abbrev pub columns_of : List ScopeSource → Option Over → Columns
columns_of sources None = no_columns
columns_of sources (Some over) = columns_listed sources over.first over.more

abbrev pub stamping_with : Expr → List ℕ → List Fault → Stamping
stamping_with e found [] = By e found
stamping_with e found (f ∷ fs) = Refused

abbrev pub stamping_of : Expr → Columns → Stamping
stamping_of e c = stamping_with e c.found c.faults

abbrev pub stamp_moment : Scope → Stamp → Checked Expr
stamp_moment scope s = moment_of (tree.out-Expr s.expr).place (reading scope s.expr).rows

abbrev pub stamping_by : Checked Expr → Columns → Stamping
stamping_by (Ok e) c = stamping_of e c
stamping_by (Err faults) c = Refused

-- what a TIMESTAMP BY says
unfoldable pub stamping : Scope → Stamp → Stamping
stamping scope s = stamping_by (stamp_moment scope s) (columns_of scope.sources s.over)

abbrev pub stamp_noted_by : Checked Expr → Columns → Draft → Draft
stamp_noted_by (Ok e) c d = noted c.faults d
stamp_noted_by (Err faults) c d = noted c.faults (noted faults d)

-- the faults in a TIMESTAMP BY
unfoldable pub stamp_noted : Scope → Stamp → Draft → Draft
stamp_noted scope s d = stamp_noted_by (stamp_moment scope s) (columns_of scope.sources s.over) d

abbrev pub are_same_columns : List ℕ → List ℕ → Bool
are_same_columns ns ms = pointwise nat_eq ns ms

-- two mentions say the same of the time of the records
abbrev pub is_same_stamping : Stamping → Stamping → Bool
is_same_stamping Arrival Arrival = true
is_same_stamping (By e c) (By f b) = is_same_expr e f && are_same_columns c b
is_same_stamping Refused Refused = true
is_same_stamping _ _ = false

-- a mention doesn't say the same as the first one of its stream
abbrev pub differs_from_first : List Mention → Mention → Bool
differs_from_first [] m = false
differs_from_first (first ∷ ms) m =
    if first.stream == m.stream then not (is_same_stamping first.stamping m.stamping)
    else differs_from_first ms m

-- the faults of such mentions, among all mentions
abbrev pub faults_of_mentions : List Mention → List Mention → List Fault
faults_of_mentions all [] = []
faults_of_mentions all (m ∷ ms) =
    if differs_from_first all m then fault_at m.place cause.StampTwice ∷ faults_of_mentions all ms
    else faults_of_mentions all ms
