-- Each operator, as the one of its step.
use Rattle.std.proofs.Common.{◌≡◌, ℕ, ◌≤◌, Bool, true, false, cond, List, [], ◌++◌, sym, ap, ◌∙◌}
use Rattle.query_plan.specs.declared.plan.Step.{Step}
use Rattle.query_plan.specs.declared.expr.Cond.{Cond}
use Rattle.query_plan.specs.declared.expr.Expr.{Expr}
use Rattle.event_value.specs.declared.record.Stamped.{Stamped}
use Rattle.row_order.proofs.StretchLemmas.{rows_between-new}
use Rattle.stream_joins.specs.declared.bound_join.BoundSpec.{BoundSpec}
use Rattle.stream_joins.specs.declared.reference_join.ReferenceSpec.{ReferenceSpec}
use Rattle.stream_op.specs.Laws.{Meaning}
use Rattle.stream_op.specs.Operators.{filtered, projected, united}
use Rattle.stream_op.specs.Rows.{AreNext, AreTaken, between, time_of}
use Rattle.stream_op.proofs.RowLemmas.{AreTaken-next}
use Rattle.window_flow.specs.Sessions.{session_fits, session_window}
use Rattle.window_flow.specs.Sliding.{sliding, sliding_fits}
use Rattle.window_flow.specs.declared.session.SessionSpec.{SessionSpec}
use Rattle.window_flow.specs.declared.sliding.SlidingSpec.{SlidingSpec}
use Rattle.window_grid.specs.Grid.{grid, grid_fits}
use Rattle.window_grid.specs.Snapshot.{snapshot}
use Rattle.window_grid.specs.declared.grid.GridSpec.{GridSpec}
use Rattle.window_grid.specs.declared.snapshot.SnapshotSpec.{SnapshotSpec}
use Rattle.query_meaning.specs.StepOp.{Given, MakesNothing, RunsFilter, RunsGrid, RunsJoin, RunsLookup, RunsProject, RunsSession, RunsSliding, RunsSnapshot, RunsSource, RunsUnion}
use Rattle.query_meaning.specs.Steps.{bound_spec, grid_spec, joined, looked_up, meaning_with, passes, reference_spec, session_spec, sliding_spec, snapshot_spec, step_meaning, values_over, where_fit}
use Rattle.query_meaning.specs.declared.ready.ReadyStep.{ReadyStep}

-- what an operator that runs a step owes, where its old and its new value stand so for the step and its left and right rows
abbrev pub Goes : (old new : ReadyStep → List Stamped → List Stamped → ℕ → Type 0) → List Stamped → List Stamped → ℕ → List Stamped → Type 0
Goes old new left right u rows = (step : ReadyStep) (l r : List Stamped) (w : ℕ) → old step l r w × AreTaken w l r → w ≤ u
    → AreNext w u left → AreNext w u right
    → (rows ≡ between w u (step_meaning step (l ++ left) (r ++ right))) × (new step (l ++ left) (r ++ right) u × AreTaken u (l ++ left) (r ++ right))

none-next : (w u : ℕ) → AreNext w u []
none-next w u = record { in_order = tt; from_last = tt; below_new = tt }

-- the rows of a step whose kind is known
of_kind : (step : ReadyStep) (kind : Step) (w u : ℕ) (left right rows : List Stamped) → step.step ≡ kind
    → rows ≡ between w u (meaning_with step.width step.versions kind left right) → rows ≡ between w u (step_meaning step left right)
of_kind step kind w u left right rows is e = e ∙ ap (λ s. between w u (meaning_with step.width step.versions s left right)) (sym is)

pub source-goes : {left right rows : List Stamped} {u : ℕ} → rows ≡ left → Goes (λ step l r w. RunsSource step) (λ step l r w. RunsSource step) left right u rows
source-goes {left} {right} {rows} {u} is step l r w stands le a b = (
  of_kind step _ w u (l ++ left) (r ++ right) rows stands.0.1 (is ∙ sym (rows_between-new time_of w u l left stands.1.left_before.below_it a.from_last a.below_new)),
  (stands.0, AreTaken-next w u l left r right le stands.1 a b),
)

pub nothing-goes : {left right rows : List Stamped} {u : ℕ} → rows ≡ [] → Goes (λ step l r w. MakesNothing step) (λ step l r w. MakesNothing step) left right u rows
nothing-goes {left} {right} {rows} {u} is step l r w stands le a b = (
  is ∙ ap (between w u) (sym (stands.0 (l ++ left) (r ++ right))),
  (stands.0, AreTaken-next w u l left r right le stands.1 a b),
)

-- what an operator owes, before and after it was given further rows
abbrev pub GoesBy : {Spec : Type 0} → (Spec → Meaning) → (old new : Given Spec) → List Stamped → List Stamped → ℕ → List Stamped → Type 0
GoesBy {Spec} op old new new_left new_right u rows = (spec : Spec) (left right : List Stamped) (w : ℕ) → old spec left right w → w ≤ u
    → AreNext w u new_left → AreNext w u new_right
    → (rows ≡ between w u (op spec (left ++ new_left) (right ++ new_right))) × new spec (left ++ new_left) (right ++ new_right) u

pub filter-goes : {left right rows : List Stamped} {u : ℕ} (old new : Given Cond) → GoesBy (filtered passes) old new left [] u rows
    → Goes (λ step l r w. RunsFilter old step l w) (λ step l r w. RunsFilter new step l w) left right u rows
filter-goes {left} {right} {rows} {u} old new advances step l r w stands le a b =
    let runs = stands.0 in
    let done = advances runs.1 l [] w runs.3 le a (none-next w u) in (
      of_kind step _ w u (l ++ left) (r ++ right) rows runs.2 done.0,
      ((runs.0, runs.1, runs.2, done.1), AreTaken-next w u l left r right le stands.1 a b),
    )

pub project-goes : {left right rows : List Stamped} {u : ℕ} (old new : Given (List Expr)) → GoesBy (projected values_over) old new left [] u rows
    → Goes (λ step l r w. RunsProject old step l w) (λ step l r w. RunsProject new step l w) left right u rows
project-goes {left} {right} {rows} {u} old new advances step l r w stands le a b =
    let runs = stands.0 in
    let done = advances runs.1 l [] w runs.3 le a (none-next w u) in (
      of_kind step _ w u (l ++ left) (r ++ right) rows runs.2 done.0,
      ((runs.0, runs.1, runs.2, done.1), AreTaken-next w u l left r right le stands.1 a b),
    )

pub union-goes : {left right rows : List Stamped} {u : ℕ} (old new : Given (Unit {0})) → GoesBy united old new left right u rows
    → Goes (λ step l r w. RunsUnion old step l r w) (λ step l r w. RunsUnion new step l r w) left right u rows
union-goes {left} {right} {rows} {u} old new advances step l r w stands le a b =
    let runs = stands.0 in
    let done = advances tt l r w runs.3 le a b in (
      of_kind step _ w u (l ++ left) (r ++ right) rows runs.2 done.0,
      ((runs.0, runs.1, runs.2, done.1), AreTaken-next w u l left r right le stands.1 a b),
    )

pub join-goes : {left right rows : List Stamped} {u : ℕ} (old new : Given (BoundSpec Cond)) → GoesBy joined old new left right u rows
    → Goes (λ step l r w. RunsJoin old step l r w) (λ step l r w. RunsJoin new step l r w) left right u rows
join-goes {left} {right} {rows} {u} old new advances step l r w stands le a b =
    let runs = stands.0 in
    let done = advances (bound_spec step.width runs.2 runs.3 runs.4 runs.5) l r w runs.7 le a b in (
      of_kind step _ w u (l ++ left) (r ++ right) rows runs.6 done.0,
      ((runs.0, runs.1, runs.2, runs.3, runs.4, runs.5, runs.6, done.1), AreTaken-next w u l left r right le stands.1 a b),
    )

pub lookup-goes : {left right rows : List Stamped} {u : ℕ} (old new : Given (ReferenceSpec Cond)) → GoesBy looked_up old new left [] u rows
    → Goes (λ step l r w. RunsLookup old step l w) (λ step l r w. RunsLookup new step l w) left right u rows
lookup-goes {left} {right} {rows} {u} old new advances step l r w stands le a b =
    let runs = stands.0 in
    let done = advances (reference_spec step.width step.versions runs.2 runs.3) l [] w runs.5 le a (none-next w u) in (
      of_kind step _ w u (l ++ left) (r ++ right) rows runs.4 done.0,
      ((runs.0, runs.1, runs.2, runs.3, runs.4, done.1), AreTaken-next w u l left r right le stands.1 a b),
    )

-- the rows of a window that fits
fitted : (fits : Bool) (w u : ℕ) (rows made : List Stamped) → fits ≡ true → rows ≡ between w u made → rows ≡ between w u (where_fit fits made)
fitted fits w u rows made is e = e ∙ ap (λ b. between w u (cond b made [])) (sym is)

-- an operator of a window was begun only where its lengths fit
abbrev pub Fitting : {Spec : Type 0} → (Spec → Bool) → Given Spec → Type 0
Fitting {Spec} fits old = (spec : Spec) (l r : List Stamped) (w : ℕ) → old spec l r w → fits spec ≡ true

pub grid-goes : {left right rows : List Stamped} {u : ℕ} (old new : Given GridSpec) → Fitting grid_fits old
    → GoesBy (λ spec l r. grid spec l) old new left [] u rows
    → Goes (λ step l r w. RunsGrid old step l w) (λ step l r w. RunsGrid new step l w) left right u rows
grid-goes {left} {right} {rows} {u} old new fitting advances step l r w stands le a b =
    let runs = stands.0 in
    let spec = grid_spec runs.1 runs.2 runs.3 runs.4 runs.5 in
    let done = advances spec l [] w runs.7 le a (none-next w u) in (
      of_kind step _ w u (l ++ left) (r ++ right) rows runs.6 (fitted (grid_fits spec) w u rows (grid spec (l ++ left)) (fitting spec l [] w runs.7) done.0),
      ((runs.0, runs.1, runs.2, runs.3, runs.4, runs.5, runs.6, done.1), AreTaken-next w u l left r right le stands.1 a b),
    )

pub snapshot-goes : {left right rows : List Stamped} {u : ℕ} (old new : Given SnapshotSpec) → GoesBy (λ spec l r. snapshot spec l) old new left [] u rows
    → Goes (λ step l r w. RunsSnapshot old step l w) (λ step l r w. RunsSnapshot new step l w) left right u rows
snapshot-goes {left} {right} {rows} {u} old new advances step l r w stands le a b =
    let runs = stands.0 in
    let spec = snapshot_spec runs.1 runs.2 in
    let done = advances spec l [] w runs.4 le a (none-next w u) in (
      of_kind step _ w u (l ++ left) (r ++ right) rows runs.3 done.0,
      ((runs.0, runs.1, runs.2, runs.3, done.1), AreTaken-next w u l left r right le stands.1 a b),
    )

pub sliding-goes : {left right rows : List Stamped} {u : ℕ} (old new : Given SlidingSpec) → Fitting sliding_fits old
    → GoesBy (λ spec l r. sliding spec l) old new left [] u rows
    → Goes (λ step l r w. RunsSliding old step l w) (λ step l r w. RunsSliding new step l w) left right u rows
sliding-goes {left} {right} {rows} {u} old new fitting advances step l r w stands le a b =
    let runs = stands.0 in
    let spec = sliding_spec runs.1 runs.2 runs.3 in
    let done = advances spec l [] w runs.5 le a (none-next w u) in (
      of_kind step _ w u (l ++ left) (r ++ right) rows runs.4 (fitted (sliding_fits spec) w u rows (sliding spec (l ++ left)) (fitting spec l [] w runs.5) done.0),
      ((runs.0, runs.1, runs.2, runs.3, runs.4, done.1), AreTaken-next w u l left r right le stands.1 a b),
    )

pub session-goes : {left right rows : List Stamped} {u : ℕ} (old new : Given SessionSpec) → Fitting session_fits old
    → GoesBy (λ spec l r. session_window spec l) old new left [] u rows
    → Goes (λ step l r w. RunsSession old step l w) (λ step l r w. RunsSession new step l w) left right u rows
session-goes {left} {right} {rows} {u} old new fitting advances step l r w stands le a b =
    let runs = stands.0 in
    let spec = session_spec runs.1 runs.2 runs.3 runs.4 runs.5 in
    let done = advances spec l [] w runs.7 le a (none-next w u) in (
      of_kind step _ w u (l ++ left) (r ++ right) rows runs.6 (fitted (session_fits spec) w u rows (session_window spec (l ++ left)) (fitting spec l [] w runs.7) done.0),
      ((runs.0, runs.1, runs.2, runs.3, runs.4, runs.5, runs.6, done.1), AreTaken-next w u l left r right le stands.1 a b),
    )

-- a window whose lengths don't fit has no rows
pub unfit-nothing : (fits : Bool) (rows : List Stamped) → fits ≡ false → where_fit fits rows ≡ []
unfit-nothing fits rows h = ap (λ b. cond b rows []) h
