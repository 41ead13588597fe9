-- One select: its steps in their order, its columns, the faults in it.
use Rattle.std.specs.Prelude.{ℕ, ◌+◌, Bool, if◌then◌else◌, Option, Some, None, List, length, pos}
use Rattle.event_value.specs.declared.aggregate.Aggregate.{Aggregate}
use Rattle.query_plan.specs.declared.plan.Step.{Step}
use Rattle.query_plan.specs.declared.plan.Step.TheVariants as step
use Rattle.query_tree.specs.declared.expr.Expr.{Expr}
use Rattle.query_tree.specs.declared.select.GroupBy.{GroupBy}
use Rattle.query_tree.specs.declared.select.Having.{Having}
use Rattle.query_tree.specs.declared.select.SelectItems.{SelectItems}
use Rattle.query_tree.specs.declared.select.Tail.{Tail}
use Rattle.query_forms.specs.declared.fault.Cause.TheVariants as cause
use Rattle.query_readings.specs.declared.reading.AggregateCall.{AggregateCall}
use Rattle.query_readings.specs.declared.reading.Side.TheVariants.{Rows, Groups}
use Rattle.query_readings.specs.declared.scope.GroupKey.{GroupKey}
use Rattle.query_readings.specs.declared.scope.Scope.{Scope}
use Rattle.query_sources.specs.declared.draft.Draft.{Draft}
use Rattle.query_type.specs.declared.items.Picked.{Picked}
use Rattle.query_sources.specs.declared.known.KnownSource.{KnownSource}
use Rattle.query_sources.specs.declared.known.ResultColumn.{ResultColumn}
use Rattle.query_windows.specs.declared.windows.Window.{Window}
use Rattle.query_windows.specs.declared.windows.Window.TheVariants.{Grid, Session, Sliding, Snapshot}
use Rattle.query_windows.specs.Aggregates.{arguments_of, call_columns, calls_of_select}
use Rattle.query_sources.specs.Conditions.{filtered}
use Rattle.query_sources.specs.Drafts.{asked, noted, noted_at, with_step}
use Rattle.query_windows.specs.Groups.{first_window, grouping_of}
use Rattle.query_type.specs.Items.{column_names, picked_of}
use Rattle.query_sources.specs.Joins.{joins_read}
use Rattle.query_sources.specs.Known.{known_named}
use Rattle.query_sources.specs.Names.{noted_repeats}
use Rattle.query_sources.specs.Sources.{scope_of_tail, tail_mentioned}

-- ---- how many steps a select asks for

abbrev pub filter_steps : Option Expr → ℕ
filter_steps None = 0
filter_steps (Some e) = 1

abbrev pub having_steps : Option Having → ℕ
having_steps None = 0
having_steps (Some h) = 1

abbrev pub group_steps : Option GroupBy → Option Having → ℕ
group_steps None having = 0
group_steps (Some g) having = having_steps having + 2

-- one for each join, one for WHERE, two for groups and one for their HAVING, one for the items
abbrev pub step_count : Tail → ℕ
step_count t =
    length t.joins + (filter_steps t.condition + group_steps t.groups t.having + 1)

-- a later select of a union asks for one more, which joins it
abbrev pub whole_count : Bool → Tail → ℕ
whole_count later t = if later then step_count t + 1 else step_count t

-- ---- the rows of the select

abbrev pub step_of : Option KnownSource → ℕ
step_of None = 0
step_of (Some k) = k.step

abbrev pub first_step : List KnownSource → Tail → ℕ
first_step known t = step_of (known_named known t.source.name.text)

abbrev pub from_step : ℕ → Draft → Draft
from_step n d = record d { last = n }

-- its steps are counted, its sources mentioned, and its rows are those of the first, with each join
unfoldable pub begun : List KnownSource → ℕ → Bool → Tail → Draft → Draft
begun known place later t d =
    joins_read known t
    (from_step (first_step known t)
    (tail_mentioned known t (asked place (whole_count later t) d)))

abbrev pub where_read : Scope → Option Expr → Draft → Draft
where_read scope None d = d
where_read scope (Some e) d = filtered scope Rows e d

-- the items as the last step
abbrev pub picked_noted : Picked → Draft → Draft
picked_noted p d = noted_repeats (column_names p.columns) (noted p.faults d)

abbrev pub projection : Picked → Draft → Draft
projection p d = with_step (step.Project d.last p.exprs) d

abbrev pub projected : Picked → Draft → Draft
projected p d = projection p (picked_noted p d)

-- HAVING without groups isn't built
abbrev pub having_refused : Option Having → Draft → Draft
having_refused None d = d
having_refused (Some h) d = noted_at h.place cause.Unsupported d

unfoldable pub plain_columns : Scope → SelectItems → List ResultColumn
plain_columns scope items = (picked_of scope Rows items).columns

unfoldable pub plain_read : Scope → Option Having → SelectItems → Draft → Draft
plain_read scope having items d = projected (picked_of scope Rows items) (having_refused having d)

-- ---- groups

abbrev pub window_step : ℕ → Window → ℕ → ℕ → List Aggregate → Step
window_step from Snapshot parts keys aggs = step.Snapshot from keys aggs
window_step from (Grid size hop) parts keys aggs = step.Grid from size hop (pos 0) keys aggs
window_step from (Sliding size) parts keys aggs = step.Sliding from size keys aggs
window_step from (Session timeout most) parts keys aggs =
    step.Session from timeout most parts keys aggs

abbrev pub with_window : Window → ℕ → ℕ → List Aggregate → Draft → Draft
with_window w parts keys aggs d = with_step (window_step d.last w parts keys aggs) d

-- what the window takes of each row, and the window
abbrev pub grouped : Window → List ℕ → List GroupKey → List AggregateCall → Draft → Draft
grouped w parts keys calls d =
    let given = arguments_of parts keys calls in
    with_window w (length parts) (length keys) given.aggregates
    (with_step (step.Project d.last given.exprs) d)

abbrev pub with_keys : List GroupKey → Scope → Scope
with_keys keys scope = record scope { keys = keys }

-- aggregates stand behind the group expressions
abbrev pub with_calls : List AggregateCall → Scope → Scope
with_calls calls scope = record scope { aggregates = call_columns (length scope.keys) calls }

abbrev pub keyed_scope : Scope → GroupBy → Scope
keyed_scope scope groups = with_keys (grouping_of scope groups).keys scope

abbrev pub calls_over : Scope → GroupBy → Option Having → SelectItems → List AggregateCall
calls_over scope groups having items = calls_of_select (keyed_scope scope groups) items having

-- the scope of what stands over the groups
unfoldable pub group_scope : Scope → GroupBy → Option Having → SelectItems → Scope
group_scope scope groups having items =
    with_calls (calls_over scope groups having items) (keyed_scope scope groups)

unfoldable pub groups_read : Scope → GroupBy → Option Having → SelectItems → Draft → Draft
groups_read scope groups having items d =
    let g = grouping_of scope groups in
    grouped (first_window g.windows) g.parts g.keys (calls_over scope groups having items)
    (noted g.faults d)

abbrev pub having_read : Scope → Option Having → Draft → Draft
having_read scope None d = d
having_read scope (Some h) d = filtered scope Groups h.condition d

unfoldable pub grouped_columns : Scope → GroupBy → Option Having → SelectItems → List ResultColumn
grouped_columns scope groups having items =
    (picked_of (group_scope scope groups having items) Groups items).columns

unfoldable pub grouped_read : Scope → GroupBy → Option Having → SelectItems → Draft → Draft
grouped_read scope groups having items d =
    let over = group_scope scope groups having items in
    projected (picked_of over Groups items)
    (having_read over having (groups_read scope groups having items d))

-- ---- the whole select

abbrev pub columns_with : Scope → Option GroupBy → Option Having → SelectItems → List ResultColumn
columns_with scope None having items = plain_columns scope items
columns_with scope (Some groups) having items = grouped_columns scope groups having items

-- the columns that a select gives
unfoldable pub columns_of : List KnownSource → SelectItems → Tail → List ResultColumn
columns_of known items t = columns_with (scope_of_tail known t) t.groups t.having items

abbrev pub read_with : Scope → Option GroupBy → Option Having → SelectItems → Draft → Draft
read_with scope None having items d = plain_read scope having items d
read_with scope (Some groups) having items d = grouped_read scope groups having items d

-- the steps of a select and the faults in it
unfoldable pub select_read : List KnownSource → ℕ → Bool → SelectItems → Tail → Draft → Draft
select_read known place later items t d =
    let scope = scope_of_tail known t in
    read_with scope t.groups t.having items
    (where_read scope t.condition (begun known place later t d))
