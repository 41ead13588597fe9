-- GROUP BY: exactly one window, perhaps with parts, and group expressions over the rows.
use Rattle.std.specs.Prelude.{ℕ, ◌-◌, Bool, true, false, if◌then◌else◌, Option, Some, None, Ok, Err, List, [], ◌∷◌, ◌++◌, length, slice_get}
use Rattle.query_tree.specs.declared.expr.Args.{Args}
use Rattle.query_tree.specs.declared.expr.Args.TheOpen.{Call-F, Primary-F}
use Rattle.query_tree.specs.declared.expr.Call.{Call, out-Call}
use Rattle.query_tree.specs.declared.expr.Expr.{Expr}
use Rattle.query_tree.specs.declared.expr.Primary.{Primary, out-Primary}
use Rattle.query_tree.specs.declared.name.Name.{Name}
use Rattle.query_tree.specs.declared.name.Path.{Path}
use Rattle.query_tree.specs.declared.select.Group.{Group}
use Rattle.query_tree.specs.declared.select.GroupBy.{GroupBy}
use Rattle.query_tree.specs.declared.select.Partition.{Partition}
use Rattle.query_forms.specs.declared.fault.Fault.{Fault}
use Rattle.query_forms.specs.declared.fault.Cause.{Cause}
use Rattle.query_forms.specs.declared.fault.Cause.TheVariants as cause
use Rattle.query_readings.specs.declared.scope.GroupKey.{GroupKey}
use Rattle.query_readings.specs.declared.scope.Scope.{Scope}
use Rattle.query_forms.specs.declared.sense.Valued.{Valued}
use Rattle.query_forms.specs.Faults.{Checked, fault_at}
use Rattle.query_readings.specs.Functions.{is_time}
use Rattle.query_senses.specs.Readings.{reading}
use Rattle.query_windows.specs.declared.groups.Grouping.{Grouping}
use Rattle.query_windows.specs.declared.windows.Window.{Window}
use Rattle.query_windows.specs.declared.windows.Window.TheVariants.{Snapshot}
use Rattle.query_sources.specs.declared.stamps.Columns.{Columns}
use Rattle.query_windows.specs.declared.windows.WindowName.{WindowName}
use Rattle.query_windows.specs.declared.windows.WindowName.TheVariants as called
use Rattle.query_sources.specs.Conditions.{place_of, value_of}
use Rattle.query_windows.specs.Arguments.{CallNode}
use Rattle.query_literals.specs.Bare.{PrimaryNode, bare_primary}
use Rattle.query_sources.specs.Stamps.{columns_listed}
use Rattle.query_windows.specs.Windows.{window_named, window_of}

-- ---- groups that are windows: calls by name, and System.Timestamp in both forms

abbrev pub window_if_named : ℕ → Option WindowName → Option Args → Option (Checked Window)
window_if_named place None args = None
window_if_named place (Some name) args = Some (window_of place name args)

abbrev pub window_of_name : ℕ → Name → Option Name → Option Args → Option (Checked Window)
window_of_name place first None args = window_if_named place (window_named first.text) args
window_of_name place first (Some second) args = None

abbrev pub named_window : ℕ → Path → Option Args → Option (Checked Window)
named_window place path args = window_of_name place path.first path.second args

abbrev pub time_window : Option Args → Option (Checked Window)
time_window None = Some (Ok Snapshot)
time_window (Some args) = None

abbrev pub window_of_function : ℕ → Path → Option Args → Option (Checked Window)
window_of_function place path args =
    if is_time path then time_window args else named_window place path args

abbrev pub window_in_call : CallNode → Option (Checked Window)
window_in_call (Call-F.Cast place word inner to) = None
window_in_call (Call-F.Function place path args) = window_of_function place path args

abbrev pub window_of_call : Call → Option (Checked Window)
window_of_call c = window_in_call (out-Call c)

abbrev pub window_in_primary : PrimaryNode → Option (Checked Window)
window_in_primary (Primary-F.Call call) = window_of_call call
window_in_primary (Primary-F.Column path) = if is_time path then Some (Ok Snapshot) else None
window_in_primary _ = None

abbrev pub window_of_primary : Primary → Option (Checked Window)
window_of_primary p = window_in_primary (out-Primary p)

abbrev pub window_of_bare : Option Primary → Option (Checked Window)
window_of_bare None = None
window_of_bare (Some p) = window_of_primary p

abbrev pub window_in : Expr → Option (Checked Window)
window_in e = window_of_bare (bare_primary e)

-- ---- groups that are session windows, whatever their arguments

abbrev pub is_session_name : Option WindowName → Bool
is_session_name None = false
is_session_name (Some called.Session) = true
is_session_name (Some name) = false

abbrev pub is_session_named : Name → Option Name → Bool
is_session_named first None = is_session_name (window_named first.text)
is_session_named first (Some second) = false

abbrev pub is_session_node : CallNode → Bool
is_session_node (Call-F.Cast place word inner to) = false
is_session_node (Call-F.Function place path args) = is_session_named path.first path.second

abbrev pub is_session_call : Call → Bool
is_session_call c = is_session_node (out-Call c)

abbrev pub is_session_in_primary : PrimaryNode → Bool
is_session_in_primary (Primary-F.Call call) = is_session_call call
is_session_in_primary _ = false

abbrev pub is_session_primary : Primary → Bool
is_session_primary p = is_session_in_primary (out-Primary p)

abbrev pub is_session_bare : Option Primary → Bool
is_session_bare None = false
is_session_bare (Some p) = is_session_primary p

abbrev pub is_session : Expr → Bool
is_session e = is_session_bare (bare_primary e)

-- ---- the groups of a select

abbrev pub with_faults : List Fault → Grouping → Grouping
with_faults faults g = record g { faults = g.faults ++ faults }

abbrev pub with_window : Checked Window → Grouping → Grouping
with_window (Ok w) g = record g { windows = g.windows ++ Some w ∷ [] }
with_window (Err faults) g =
    record g { windows = g.windows ++ None ∷ []; faults = g.faults ++ faults }

abbrev pub group_key : ℕ → Valued → GroupKey
group_key n v = record { expr = v.expr; kind = v.kind; column = n }

abbrev pub with_key : Checked Valued → Grouping → Grouping
with_key (Ok v) g = record g { keys = g.keys ++ group_key (length g.keys) v ∷ [] }
with_key (Err faults) g = with_faults faults g

abbrev pub with_fault_at : ℕ → Cause → Grouping → Grouping
with_fault_at place r g = record g { faults = g.faults ++ fault_at place r ∷ [] }

-- the parts are told apart by these columns
abbrev pub with_parts : Columns → Grouping → Grouping
with_parts c g = record g { parts = c.found; faults = g.faults ++ c.faults }

abbrev pub with_partition : Scope → ℕ → Bool → Partition → Grouping → Grouping
with_partition scope place session p g =
    if session then with_parts (columns_listed scope.sources p.first p.more) g
    else with_fault_at place cause.Unsupported g

abbrev pub with_over_columns : Scope → Group → Option Partition → Grouping → Grouping
with_over_columns scope group None g = g
with_over_columns scope group (Some p) g =
    with_partition scope group.place (is_session group.expr) p g

-- OVER belongs to a session window
abbrev pub with_over : Scope → Group → Grouping → Grouping
with_over scope group g = with_over_columns scope group group.partition g

abbrev pub with_role : Scope → Option (Checked Window) → Expr → Grouping → Grouping
with_role scope (Some w) e g = with_window w g
with_role scope None e g = with_key (value_of (place_of e) (reading scope e).rows) g

abbrev pub with_group : Scope → Grouping → Group → Grouping
with_group scope g group =
    with_role scope (window_in group.expr) group.expr (with_over scope group g)

abbrev pub with_groups : Scope → Grouping → List Group → Grouping
with_groups scope g [] = g
with_groups scope g (group ∷ more) = with_groups scope (with_group scope g group) more

-- how many group items a select may have
abbrev pub max_groups : ℕ
max_groups = 16

abbrev pub with_excess_group : Option Group → Grouping → Grouping
with_excess_group None g = g
with_excess_group (Some group) g = with_fault_at group.place cause.TooMany g

abbrev pub with_excess : GroupBy → Grouping → Grouping
with_excess groups g = with_excess_group (slice_get groups.more (max_groups - 1)) g

abbrev pub with_windows : ℕ → List (Option Window) → Grouping → Grouping
with_windows place (w ∷ []) g = g
with_windows place _ g = with_fault_at place cause.Window g

-- a select has exactly one window
abbrev pub with_one_window : ℕ → Grouping → Grouping
with_one_window place g = with_windows place g.windows g

abbrev pub no_groups : Grouping
no_groups = record { keys = []; windows = []; parts = []; faults = [] }

-- the groups of a select, with the faults in them
unfoldable pub grouping_of : Scope → GroupBy → Grouping
grouping_of scope groups =
    with_one_window groups.place
    (with_excess groups
    (with_groups scope (with_group scope no_groups groups.first) groups.more))

abbrev pub window_or_snapshot : Option Window → Window
window_or_snapshot None = Snapshot
window_or_snapshot (Some w) = w

-- the window, where it isn't refused
abbrev pub first_window : List (Option Window) → Window
first_window [] = Snapshot
first_window (w ∷ ws) = window_or_snapshot w
