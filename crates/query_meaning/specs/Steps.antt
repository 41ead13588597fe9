-- The rows of each step of a plan, by its operator's own definition over the rows of earlier steps.
use Rattle.std.specs.Prelude.{ℕ, ℤ, List, [], ◌∷◌, ◌++◌, map, Bool, if◌then◌else◌, Option, Some, None, slice_get}
use Rattle.query_plan.specs.declared.expr.Cond.{Cond}
use Rattle.query_plan.specs.declared.expr.Expr.{Expr}
use Rattle.event_value.specs.declared.aggregate.Aggregate.{Aggregate}
use Rattle.query_plan.specs.declared.plan.Step.{Step}
use Rattle.query_plan.specs.declared.plan.Step.TheVariants.{Source, Filter, Project, Union, Grid, Snapshot}
use Rattle.query_plan.specs.declared.plan.Step.TheVariants.{Sliding, Session, Join, Lookup}
use Rattle.event_value.specs.declared.record.Stamped.{Stamped}
use Rattle.event_value.specs.declared.value.Value.{Value}
use Rattle.expr_eval.specs.Truths.{is_true}
use Rattle.expr_eval.specs.Values.{truth_of, value_of}
use Rattle.stream_joins.specs.Bound.{bound_join}
use Rattle.stream_joins.specs.JoinCond.{passes_over}
use Rattle.stream_joins.specs.Reference.{reference_join}
use Rattle.stream_joins.specs.Snapshots.{Snapshots}
use Rattle.stream_joins.specs.Specs.{bound_of, lookup_of}
use Rattle.stream_joins.specs.declared.bound_join.BoundSpec.{BoundSpec}
use Rattle.stream_joins.specs.declared.reference_join.ReferenceSpec.{ReferenceSpec}
use Rattle.stream_op.specs.Laws.{Meaning}
use Rattle.stream_op.specs.Operators.{filtered, projected, united}
use Rattle.window_flow.specs.Sessions.{session_fits, session_window}
use Rattle.window_flow.specs.Sliding.{sliding, sliding_fits}
use Rattle.window_flow.specs.declared.session.SessionSpec.{SessionSpec}
use Rattle.window_flow.specs.declared.sliding.SlidingSpec.{SlidingSpec}
use Rattle.window_grid.specs.Grid.{grid, grid_fits}
use Rattle.window_grid.specs.Snapshot.{snapshot}
use Rattle.window_grid.specs.declared.grid.GridSpec.{GridSpec}
use Rattle.window_grid.specs.declared.snapshot.SnapshotSpec.{SnapshotSpec}
use Rattle.query_meaning.specs.declared.ready.ReadyStep.{ReadyStep}

-- whether a condition is true over a row
abbrev pub passes : Cond → Stamped → Bool
passes cond row = is_true (truth_of row.values row.time cond)

-- the values of expressions over a row
abbrev pub values_over : List Expr → Stamped → List Value
values_over exprs row = map (value_of row.values row.time) exprs

-- the rows of a window whose lengths fit; none of one whose lengths don't
abbrev pub where_fit : Bool → List Stamped → List Stamped
where_fit fits rows = if fits then rows else []

abbrev pub grid_spec : ℤ → ℤ → ℤ → ℕ → List Aggregate → GridSpec
grid_spec size hop offset keys aggs =
    record { size = size; hop = hop; offset = offset; keys = keys; aggs = aggs }

abbrev pub fitting_grid : GridSpec → List Stamped → List Stamped
fitting_grid spec rows = where_fit (grid_fits spec) (grid spec rows)

abbrev pub snapshot_spec : ℕ → List Aggregate → SnapshotSpec
snapshot_spec keys aggs = record { keys = keys; aggs = aggs }

abbrev pub sliding_spec : ℤ → ℕ → List Aggregate → SlidingSpec
sliding_spec size keys aggs = record { size = size; keys = keys; aggs = aggs }

abbrev pub fitting_sliding : SlidingSpec → List Stamped → List Stamped
fitting_sliding spec rows = where_fit (sliding_fits spec) (sliding spec rows)

abbrev pub session_spec : ℤ → ℤ → ℕ → ℕ → List Aggregate → SessionSpec
session_spec timeout most parts keys aggs =
    record { timeout = timeout; most = most; parts = parts; keys = keys; aggs = aggs }

abbrev pub fitting_session : SessionSpec → List Stamped → List Stamped
fitting_session spec rows = where_fit (session_fits spec) (session_window spec rows)

-- a join within a bound, where the right rows have so many columns
abbrev pub bound_spec : ℕ → ℤ → ℤ → Cond → Bool → BoundSpec Cond
bound_spec width low high cond outer =
    record { matches = cond; low = low; high = high; outer = outer; width = width }

abbrev pub joined : BoundSpec Cond → Meaning
joined spec left right = bound_join (bound_of passes_over spec) left right

-- a join with the snapshots of a reference that has so many columns
abbrev pub reference_spec : ℕ → Snapshots → Cond → Bool → ReferenceSpec Cond
reference_spec width snapshots cond outer =
    record { matches = cond; versions = snapshots; outer = outer; width = width }

abbrev pub looked_up : ReferenceSpec Cond → Meaning
looked_up spec left right = reference_join (lookup_of passes_over spec) left right

-- What a step makes of the rows of its first and second input, where it joins so many columns to
-- each row and looks rows up in these snapshots.
abbrev pub meaning_with : ℕ → Snapshots → Step → Meaning
meaning_with width snapshots (Source index) left right = left
meaning_with width snapshots (Filter from cond) left right = filtered passes cond left []
meaning_with width snapshots (Project from exprs) left right = projected values_over exprs left []
meaning_with width snapshots (Union first second) left right = united tt left right
meaning_with width snapshots (Grid from size hop offset keys aggs) left right =
    fitting_grid (grid_spec size hop offset keys aggs) left
meaning_with width snapshots (Snapshot from keys aggs) left right =
    snapshot (snapshot_spec keys aggs) left
meaning_with width snapshots (Sliding from size keys aggs) left right =
    fitting_sliding (sliding_spec size keys aggs) left
meaning_with width snapshots (Session from timeout most parts keys aggs) left right =
    fitting_session (session_spec timeout most parts keys aggs) left
meaning_with width snapshots (Join left_step right_step low high cond outer) left right =
    joined (bound_spec width low high cond outer) left right
meaning_with width snapshots (Lookup left_step reference cond outer) left right =
    looked_up (reference_spec width snapshots cond outer) left []

abbrev pub step_meaning : ReadyStep → Meaning
step_meaning step = meaning_with step.width step.versions step.step

abbrev pub or_no_rows : Option (List Stamped) → List Stamped
or_no_rows None = []
or_no_rows (Some rows) = rows

-- the rows at a place; none where there is no such place
abbrev pub list_at : List (List Stamped) → ℕ → List Stamped
list_at lists place = or_no_rows (slice_get lists place)

-- the rows of a step's first input, by the rows of the streams and of the earlier steps
abbrev pub first_rows : List (List Stamped) → List (List Stamped) → Step → List Stamped
first_rows streams done (Source index) = list_at streams index
first_rows streams done (Filter from cond) = list_at done from
first_rows streams done (Project from exprs) = list_at done from
first_rows streams done (Union first second) = list_at done first
first_rows streams done (Grid from size hop offset keys aggs) = list_at done from
first_rows streams done (Snapshot from keys aggs) = list_at done from
first_rows streams done (Sliding from size keys aggs) = list_at done from
first_rows streams done (Session from timeout most parts keys aggs) = list_at done from
first_rows streams done (Join left right low high cond outer) = list_at done left
first_rows streams done (Lookup left reference cond outer) = list_at done left

-- the rows of its second input, if it has one
abbrev pub second_rows : List (List Stamped) → Step → List Stamped
second_rows done (Source index) = []
second_rows done (Filter from cond) = []
second_rows done (Project from exprs) = []
second_rows done (Union first second) = list_at done second
second_rows done (Grid from size hop offset keys aggs) = []
second_rows done (Snapshot from keys aggs) = []
second_rows done (Sliding from size keys aggs) = []
second_rows done (Session from timeout most parts keys aggs) = []
second_rows done (Join left right low high cond outer) = list_at done right
second_rows done (Lookup left reference cond outer) = []

-- the rows of a step, by those of the streams and of the earlier steps
abbrev pub step_rows : List (List Stamped) → List (List Stamped) → ReadyStep → List Stamped
step_rows streams done step =
    step_meaning step (first_rows streams done step.step) (second_rows done step.step)

-- the rows of further steps, behind those of the steps before
abbrev pub rows_behind : List (List Stamped) → List (List Stamped) → List ReadyStep → List (List Stamped)
rows_behind streams done [] = done
rows_behind streams done (step ∷ steps) =
    rows_behind streams (done ++ step_rows streams done step ∷ []) steps

-- the rows of each step of a plan, by those of the streams; a step that names one that isn't earlier meets no rows
abbrev pub rows_of_steps : List (List Stamped) → List ReadyStep → List (List Stamped)
rows_of_steps streams steps = rows_behind streams [] steps
