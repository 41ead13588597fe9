-- The laws of the meanings of steps, by those of the operators.
use Rattle.std.specs.Prelude.{◌≡◌, ℕ, ◌-◌, Bool, true, false, cond, unsigned_abs, List, [], Option, Some, None}
use Rattle.std.proofs.Common.{refl, subst, sym, arith}
use Rattle.query_plan.specs.declared.expr.Cond.{Cond}
use Rattle.query_plan.specs.declared.plan.Step.{Step}
use Rattle.query_plan.specs.declared.plan.Step.TheVariants.{Source, Filter, Project, Union, Grid, Snapshot}
use Rattle.query_plan.specs.declared.plan.Step.TheVariants.{Sliding, Session, Join, Lookup}
use Rattle.event_value.specs.declared.record.Stamped.{Stamped}
use Rattle.row_order.proofs.StretchLemmas.{rows_below-rows_below, rows_from-rows_from}
use Rattle.stream_joins.specs.Bound.{bound_reach}
use Rattle.stream_joins.specs.BoundLaws.{bound_join-laws}
use Rattle.stream_joins.specs.JoinCond.{passes_over}
use Rattle.stream_joins.specs.ReferenceLaws.{reference_join-laws}
use Rattle.stream_joins.specs.Snapshots.{Snapshots}
use Rattle.stream_joins.specs.Specs.{bound_of, lookup_of}
use Rattle.stream_joins.specs.declared.bound_join.BoundSpec.{BoundSpec}
use Rattle.stream_joins.specs.declared.reference_join.ReferenceSpec.{ReferenceSpec}
use Rattle.stream_op.specs.Laws.{IsWithinReach, StreamLaws}
use Rattle.stream_op.specs.OperatorLaws.{filtered-laws, projected-laws, united-laws}
use Rattle.stream_op.specs.Rows.{AreInOrder, below, from_on, time_of}
use Rattle.window_flow.specs.PartLaws.{parted-laws}
use Rattle.window_flow.specs.SessionLaws.{session-sound}
use Rattle.window_flow.specs.Sessions.{session_fits, session_parting, session_window}
use Rattle.window_flow.specs.Sliding.{size_of as slide_size, sliding, sliding_fits, sliding_parting}
use Rattle.window_flow.specs.SlidingLaws.{sliding-sound}
use Rattle.window_grid.specs.Grid.{grid, grid_fits, grid_windows, size_of}
use Rattle.window_grid.specs.GridLaws.{grid_windows-sound}
use Rattle.window_grid.specs.Snapshot.{snapshot, snapshot_fits, snapshot_windows}
use Rattle.window_grid.specs.SnapshotLaws.{snapshot_windows-sound}
use Rattle.window_grid.specs.WindowLaws.{windowed-laws}
use Rattle.query_meaning.specs.Steps.{bound_spec, grid_spec, joined, looked_up, meaning_with, passes, reference_spec, session_spec, sliding_spec, snapshot_spec, step_meaning, values_over, where_fit}
use Rattle.query_meaning.specs.declared.ready.ReadyStep.{ReadyStep}

-- how far back of a row of a step its input may lie, where there is such a number
abbrev pub reach_of : Step → Option ℕ
reach_of (Source index) = Some 0
reach_of (Filter from cond) = Some 0
reach_of (Project from exprs) = Some 0
reach_of (Union first second) = Some 0
reach_of (Grid from size hop offset keys aggs) = Some (unsigned_abs size)
reach_of (Snapshot from keys aggs) = Some 0
reach_of (Sliding from size keys aggs) = Some (unsigned_abs size)
reach_of (Session from timeout most parts keys aggs) = None
reach_of (Join left right low high cond outer) =
    Some (bound_reach (bound_of passes_over (bound_spec 0 low high cond outer)))
reach_of (Lookup left reference cond outer) = Some 0

abbrev pub step_reach : ReadyStep → Option ℕ
step_reach step = reach_of step.step

grid-laws : StreamLaws (λ spec. grid_fits spec ≡ true) (λ spec left right. grid spec left) (λ spec. Some (size_of spec))
grid-laws = windowed-laws grid_fits grid_windows grid_windows-sound

snapshot-laws : StreamLaws (λ spec. snapshot_fits spec ≡ true) (λ spec left right. snapshot spec left) (λ spec. Some 0)
snapshot-laws = windowed-laws snapshot_fits snapshot_windows (λ spec fits. snapshot_windows-sound spec)

sliding-laws : StreamLaws (λ spec. sliding_fits spec ≡ true) (λ spec left right. sliding spec left) (λ spec. Some (slide_size spec))
sliding-laws = parted-laws sliding_fits sliding_parting (λ spec. Some (slide_size spec)) (λ spec fits. sliding-sound spec)

session-laws : StreamLaws (λ spec. session_fits spec ≡ true) (λ spec left right. session_window spec left) (λ spec. None)
session-laws = parted-laws session_fits session_parting (λ spec. None) session-sound

join-laws : StreamLaws (λ (spec : BoundSpec Cond). Unit {0}) joined (λ spec. Some (bound_reach (bound_of passes_over spec)))
join-laws = bound_join-laws (bound_of passes_over)

lookup-laws : StreamLaws (λ (spec : ReferenceSpec Cond). Unit {0}) looked_up (λ spec. Some 0)
lookup-laws = reference_join-laws (lookup_of passes_over)

-- what holds of a window whose lengths fit holds of one whose lengths don't, which has no rows
module _ {Spec : Type 0} (fits : Spec → Bool) (op : Spec → List Stamped → List Stamped) (reach : Spec → Option ℕ) (laws : StreamLaws (λ spec. fits spec ≡ true) (λ spec left right. op spec left) reach) where
  fitting-past : (spec : Spec) (rows : List Stamped) (x : ℕ) → AreInOrder rows
      → below x (where_fit (fits spec) (op spec rows)) ≡ below x (where_fit (fits spec) (op spec (below x rows)))
  fitting-past spec rows x h =
      elim (fits spec) as (λ b. fits spec ≡ b → below x (cond b (op spec rows) []) ≡ below x (cond b (op spec (below x rows)) [])) [
        | true ↦ λ is. laws.past_only spec rows [] x is h tt
        | false ↦ λ e. refl
      ] refl

  fitting-order : (spec : Spec) (rows : List Stamped) → AreInOrder rows → AreInOrder (where_fit (fits spec) (op spec rows))
  fitting-order spec rows h =
      elim (fits spec) as (λ b. fits spec ≡ b → AreInOrder (cond b (op spec rows) [])) [
        | true ↦ λ is. laws.in_order spec rows [] is h tt
        | false ↦ λ e. tt
      ] refl

  fitting-within : (spec : Spec) (n : ℕ) → reach spec ≡ Some n → IsWithinReach (Some n) (λ left right. where_fit (fits spec) (op spec left))
  fitting-within spec n is left right x h k =
      elim (fits spec) as (λ b. fits spec ≡ b → from_on x (cond b (op spec left) []) ≡ from_on x (cond b (op spec (from_on (x - n) left)) [])) [
        | true ↦ λ fit. subst (λ r. IsWithinReach r (λ left right. op spec left)) is (laws.within_reach spec fit) left right x h k
        | false ↦ λ e. refl
      ] refl

step-past : (width : ℕ) (snapshots : Snapshots) (step : Step) (left right : List Stamped) (x : ℕ) → AreInOrder left → AreInOrder right
    → below x (meaning_with width snapshots step left right) ≡ below x (meaning_with width snapshots step (below x left) (below x right))
step-past width snapshots (Source index) left right x h k = sym (rows_below-rows_below time_of x x left (omega arith))
step-past width snapshots (Filter from cond) left right x h k = (filtered-laws passes).past_only cond left [] x tt h tt
step-past width snapshots (Project from exprs) left right x h k = (projected-laws values_over).past_only exprs left [] x tt h tt
step-past width snapshots (Union first second) left right x h k = united-laws.past_only tt left right x tt h k
step-past width snapshots (Grid from size hop offset keys aggs) left right x h k = fitting-past grid_fits grid (λ spec. Some (size_of spec)) grid-laws (grid_spec size hop offset keys aggs) left x h
step-past width snapshots (Snapshot from keys aggs) left right x h k = snapshot-laws.past_only (snapshot_spec keys aggs) left [] x refl h tt
step-past width snapshots (Sliding from size keys aggs) left right x h k = fitting-past sliding_fits sliding (λ spec. Some (slide_size spec)) sliding-laws (sliding_spec size keys aggs) left x h
step-past width snapshots (Session from timeout most parts keys aggs) left right x h k = fitting-past session_fits session_window (λ spec. None) session-laws (session_spec timeout most parts keys aggs) left x h
step-past width snapshots (Join left_step right_step low high cond outer) left right x h k = join-laws.past_only (bound_spec width low high cond outer) left right x tt h k
step-past width snapshots (Lookup left_step reference cond outer) left right x h k = lookup-laws.past_only (reference_spec width snapshots cond outer) left [] x tt h tt

step-order : (width : ℕ) (snapshots : Snapshots) (step : Step) (left right : List Stamped) → AreInOrder left → AreInOrder right → AreInOrder (meaning_with width snapshots step left right)
step-order width snapshots (Source index) left right h k = h
step-order width snapshots (Filter from cond) left right h k = (filtered-laws passes).in_order cond left [] tt h tt
step-order width snapshots (Project from exprs) left right h k = (projected-laws values_over).in_order exprs left [] tt h tt
step-order width snapshots (Union first second) left right h k = united-laws.in_order tt left right tt h k
step-order width snapshots (Grid from size hop offset keys aggs) left right h k = fitting-order grid_fits grid (λ spec. Some (size_of spec)) grid-laws (grid_spec size hop offset keys aggs) left h
step-order width snapshots (Snapshot from keys aggs) left right h k = snapshot-laws.in_order (snapshot_spec keys aggs) left [] refl h tt
step-order width snapshots (Sliding from size keys aggs) left right h k = fitting-order sliding_fits sliding (λ spec. Some (slide_size spec)) sliding-laws (sliding_spec size keys aggs) left h
step-order width snapshots (Session from timeout most parts keys aggs) left right h k = fitting-order session_fits session_window (λ spec. None) session-laws (session_spec timeout most parts keys aggs) left h
step-order width snapshots (Join left_step right_step low high cond outer) left right h k = join-laws.in_order (bound_spec width low high cond outer) left right tt h k
step-order width snapshots (Lookup left_step reference cond outer) left right h k = lookup-laws.in_order (reference_spec width snapshots cond outer) left [] tt h tt

step-reach : (width : ℕ) (snapshots : Snapshots) (step : Step) → IsWithinReach (reach_of step) (meaning_with width snapshots step)
step-reach width snapshots (Source index) = λ left right x h k. sym (rows_from-rows_from time_of (x - 0) x left (omega arith))
step-reach width snapshots (Filter from cond) = λ left right x h k. (filtered-laws passes).within_reach cond tt left [] x h tt
step-reach width snapshots (Project from exprs) = λ left right x h k. (projected-laws values_over).within_reach exprs tt left [] x h tt
step-reach width snapshots (Union first second) = united-laws.within_reach tt tt
step-reach width snapshots (Grid from size hop offset keys aggs) = fitting-within grid_fits grid (λ spec. Some (size_of spec)) grid-laws (grid_spec size hop offset keys aggs) (unsigned_abs size) refl
step-reach width snapshots (Snapshot from keys aggs) = λ left right x h k. snapshot-laws.within_reach (snapshot_spec keys aggs) refl left [] x h tt
step-reach width snapshots (Sliding from size keys aggs) = fitting-within sliding_fits sliding (λ spec. Some (slide_size spec)) sliding-laws (sliding_spec size keys aggs) (unsigned_abs size) refl
step-reach width snapshots (Session from timeout most parts keys aggs) = tt
step-reach width snapshots (Join left_step right_step low high cond outer) = join-laws.within_reach (bound_spec width low high cond outer) tt
step-reach width snapshots (Lookup left_step reference cond outer) = λ left right x h k. lookup-laws.within_reach (reference_spec width snapshots cond outer) tt left [] x h tt

pub step-laws : StreamLaws (λ (step : ReadyStep). Unit {0}) step_meaning step_reach
step-laws = record {
  past_only = λ step left right x fits h k. step-past step.width step.versions step.step left right x h k;
  in_order = λ step left right fits h k. step-order step.width step.versions step.step left right h k;
  within_reach = λ step fits. step-reach step.width step.versions step.step;
}
