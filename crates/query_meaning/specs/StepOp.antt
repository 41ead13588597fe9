-- Which step an operator runs, and which rows it was given.
use Rattle.std.specs.Prelude.{◌≡◌, ℕ, ℤ, Bool, List, []}
use Rattle.query_plan.specs.declared.expr.Cond.{Cond}
use Rattle.query_plan.specs.declared.expr.Expr.{Expr}
use Rattle.event_value.specs.declared.aggregate.Aggregate.{Aggregate}
use Rattle.query_plan.specs.declared.plan.Step.TheVariants as step
use Rattle.event_value.specs.declared.record.Stamped.{Stamped}
use Rattle.stream_joins.specs.declared.bound_join.BoundSpec.{BoundSpec}
use Rattle.stream_joins.specs.declared.reference_join.ReferenceSpec.{ReferenceSpec}
use Rattle.window_flow.specs.declared.session.SessionSpec.{SessionSpec}
use Rattle.window_flow.specs.declared.sliding.SlidingSpec.{SlidingSpec}
use Rattle.window_grid.specs.declared.grid.GridSpec.{GridSpec}
use Rattle.window_grid.specs.declared.snapshot.SnapshotSpec.{SnapshotSpec}
use Rattle.query_meaning.specs.Steps.{bound_spec, grid_spec, reference_spec, session_spec, sliding_spec, snapshot_spec, step_meaning}
use Rattle.query_meaning.specs.declared.ready.ReadyStep.{ReadyStep}

-- what an operator of a kind was given, by what it was begun with
abbrev pub Given : Type 0 → Type 1
Given Spec = Spec → List Stamped → List Stamped → ℕ → Type 0

-- the step is the source of a stream
abbrev pub RunsSource : ReadyStep → Type 0
RunsSource s = (index : ℕ) × (s.step ≡ step.Source index)

-- it filters by the condition that the operator has
abbrev pub RunsFilter : Given Cond → ReadyStep → List Stamped → ℕ → Type 0
RunsFilter given s left w =
    (from : ℕ) × (cond : Cond) × (s.step ≡ step.Filter from cond) × given cond left [] w

-- it projects to the expressions that the operator has
abbrev pub RunsProject : Given (List Expr) → ReadyStep → List Stamped → ℕ → Type 0
RunsProject given s left w =
    (from : ℕ) × (exprs : List Expr) × (s.step ≡ step.Project from exprs) × given exprs left [] w

-- it unites two steps
abbrev pub RunsUnion : Given (Unit {0}) → ReadyStep → List Stamped → List Stamped → ℕ → Type 0
RunsUnion given s left right w =
    (first second : ℕ) × (s.step ≡ step.Union first second) × given tt left right w

-- it has the grid that the operator has
abbrev pub RunsGrid : Given GridSpec → ReadyStep → List Stamped → ℕ → Type 0
RunsGrid given s left w =
    (from : ℕ) × (size hop offset : ℤ) × (keys : ℕ) × (aggs : List Aggregate)
    × (s.step ≡ step.Grid from size hop offset keys aggs)
    × given (grid_spec size hop offset keys aggs) left [] w

-- it has the snapshot that the operator has
abbrev pub RunsSnapshot : Given SnapshotSpec → ReadyStep → List Stamped → ℕ → Type 0
RunsSnapshot given s left w =
    (from keys : ℕ) × (aggs : List Aggregate)
    × (s.step ≡ step.Snapshot from keys aggs) × given (snapshot_spec keys aggs) left [] w

-- it has the sliding window that the operator has
abbrev pub RunsSliding : Given SlidingSpec → ReadyStep → List Stamped → ℕ → Type 0
RunsSliding given s left w =
    (from : ℕ) × (size : ℤ) × (keys : ℕ) × (aggs : List Aggregate)
    × (s.step ≡ step.Sliding from size keys aggs) × given (sliding_spec size keys aggs) left [] w

-- it has the session window that the operator has
abbrev pub RunsSession : Given SessionSpec → ReadyStep → List Stamped → ℕ → Type 0
RunsSession given s left w =
    (from : ℕ) × (timeout most : ℤ) × (parts keys : ℕ) × (aggs : List Aggregate)
    × (s.step ≡ step.Session from timeout most parts keys aggs)
    × given (session_spec timeout most parts keys aggs) left [] w

-- it joins two steps within the bound that the operator has
abbrev pub RunsJoin : Given (BoundSpec Cond) → ReadyStep → List Stamped → List Stamped → ℕ → Type 0
RunsJoin given s left right w =
    (first second : ℕ) × (low high : ℤ) × (cond : Cond) × (outer : Bool)
    × (s.step ≡ step.Join first second low high cond outer)
    × given (bound_spec s.width low high cond outer) left right w

-- it looks rows up in the snapshots that the operator has
abbrev pub RunsLookup : Given (ReferenceSpec Cond) → ReadyStep → List Stamped → ℕ → Type 0
RunsLookup given s left w =
    (first reference : ℕ) × (cond : Cond) × (outer : Bool)
    × (s.step ≡ step.Lookup first reference cond outer)
    × given (reference_spec s.width s.versions cond outer) left [] w

-- it makes no rows
abbrev pub MakesNothing : ReadyStep → Type 0
MakesNothing s = (left right : List Stamped) → step_meaning s left right ≡ []
