-- What the rows of all steps of a plan owe to the rows of its streams.
use Rattle.std.proofs.Common.{◌≡◌, ℕ, zero, suc, List, [], ◌∷◌, ◌++◌, map, refl, sym, ap, ◌∙◌, arith}
use Rattle.query_plan.specs.declared.plan.Output.{Output}
use Rattle.query_plan.specs.declared.plan.Step.{Step}
use Rattle.query_plan.specs.declared.plan.Step.TheVariants.{Source, Filter, Project, Union, Grid, Snapshot}
use Rattle.query_plan.specs.declared.plan.Step.TheVariants.{Sliding, Session, Join, Lookup}
use Rattle.event_value.specs.declared.record.Stamped.{Stamped}
use Rattle.row_order.proofs.ListLemmas.{Each-append}
use Rattle.row_order.proofs.StretchLemmas.{IsInOrder-filter, rows_below-rows_below}
use Rattle.stream_op.specs.Rows.{AreInOrder, below, time_of}
use Rattle.query_meaning.specs.Laws.{PlanLaws}
use Rattle.query_meaning.specs.declared.ready.ReadyPlan.{ReadyPlan}
use Rattle.query_meaning.specs.declared.ready.ReadyStep.{ReadyStep}
use Rattle.query_meaning.specs.Lists.{AllInOrder, all_below}
use Rattle.query_meaning.specs.Meaning.{output_rows, outputs_over}
use Rattle.query_meaning.specs.StepLaws.{step-laws}
use Rattle.query_meaning.specs.Steps.{first_rows, list_at, rows_behind, rows_of_steps, second_rows, step_meaning, step_rows}

-- a list of each list, at a place
pub list_at-map : (f : List Stamped → List Stamped) → f [] ≡ [] → (lists : List (List Stamped)) (place : ℕ)
    → list_at (map f lists) place ≡ f (list_at lists place)
list_at-map f none [] place = sym none
list_at-map f none (rows ∷ lists) zero = refl
list_at-map f none (rows ∷ lists) (suc place) = list_at-map f none lists place

pub list_at-order : (lists : List (List Stamped)) (place : ℕ) → AllInOrder lists → AreInOrder (list_at lists place)
list_at-order [] place h = tt
list_at-order (rows ∷ lists) zero h = h.0
list_at-order (rows ∷ lists) (suc place) h = list_at-order lists place h.1

-- what a step's first input has of each list
pub first_rows-map : (f : List Stamped → List Stamped) → f [] ≡ [] → (streams done : List (List Stamped)) (step : Step)
    → first_rows (map f streams) (map f done) step ≡ f (first_rows streams done step)
first_rows-map f none streams done (Source index) = list_at-map f none streams index
first_rows-map f none streams done (Filter from cond) = list_at-map f none done from
first_rows-map f none streams done (Project from exprs) = list_at-map f none done from
first_rows-map f none streams done (Union first second) = list_at-map f none done first
first_rows-map f none streams done (Grid from size hop offset keys aggs) = list_at-map f none done from
first_rows-map f none streams done (Snapshot from keys aggs) = list_at-map f none done from
first_rows-map f none streams done (Sliding from size keys aggs) = list_at-map f none done from
first_rows-map f none streams done (Session from timeout most parts keys aggs) = list_at-map f none done from
first_rows-map f none streams done (Join left right low high cond outer) = list_at-map f none done left
first_rows-map f none streams done (Lookup left reference cond outer) = list_at-map f none done left

pub second_rows-map : (f : List Stamped → List Stamped) → f [] ≡ [] → (done : List (List Stamped)) (step : Step)
    → second_rows (map f done) step ≡ f (second_rows done step)
second_rows-map f none done (Source index) = sym none
second_rows-map f none done (Filter from cond) = sym none
second_rows-map f none done (Project from exprs) = sym none
second_rows-map f none done (Union first second) = list_at-map f none done second
second_rows-map f none done (Grid from size hop offset keys aggs) = sym none
second_rows-map f none done (Snapshot from keys aggs) = sym none
second_rows-map f none done (Sliding from size keys aggs) = sym none
second_rows-map f none done (Session from timeout most parts keys aggs) = sym none
second_rows-map f none done (Join left right low high cond outer) = list_at-map f none done right
second_rows-map f none done (Lookup left reference cond outer) = sym none

pub first_rows-order : (streams done : List (List Stamped)) (step : Step) → AllInOrder streams → AllInOrder done
    → AreInOrder (first_rows streams done step)
first_rows-order streams done (Source index) h k = list_at-order streams index h
first_rows-order streams done (Filter from cond) h k = list_at-order done from k
first_rows-order streams done (Project from exprs) h k = list_at-order done from k
first_rows-order streams done (Union first second) h k = list_at-order done first k
first_rows-order streams done (Grid from size hop offset keys aggs) h k = list_at-order done from k
first_rows-order streams done (Snapshot from keys aggs) h k = list_at-order done from k
first_rows-order streams done (Sliding from size keys aggs) h k = list_at-order done from k
first_rows-order streams done (Session from timeout most parts keys aggs) h k = list_at-order done from k
first_rows-order streams done (Join left right low high cond outer) h k = list_at-order done left k
first_rows-order streams done (Lookup left reference cond outer) h k = list_at-order done left k

pub second_rows-order : (done : List (List Stamped)) (step : Step) → AllInOrder done → AreInOrder (second_rows done step)
second_rows-order done (Source index) k = tt
second_rows-order done (Filter from cond) k = tt
second_rows-order done (Project from exprs) k = tt
second_rows-order done (Union first second) k = list_at-order done second k
second_rows-order done (Grid from size hop offset keys aggs) k = tt
second_rows-order done (Snapshot from keys aggs) k = tt
second_rows-order done (Sliding from size keys aggs) k = tt
second_rows-order done (Session from timeout most parts keys aggs) k = tt
second_rows-order done (Join left right low high cond outer) k = list_at-order done right k
second_rows-order done (Lookup left reference cond outer) k = tt

-- the rows of a step are in order
pub step_rows-order : (streams done : List (List Stamped)) (step : ReadyStep) → AllInOrder streams → AllInOrder done
    → AreInOrder (step_rows streams done step)
step_rows-order streams done step h k =
    step-laws.in_order step (first_rows streams done step.step) (second_rows done step.step) tt
    (first_rows-order streams done step.step h k) (second_rows-order done step.step k)

pub done-order : (streams done : List (List Stamped)) (step : ReadyStep) → AllInOrder streams → AllInOrder done
    → AllInOrder (done ++ step_rows streams done step ∷ [])
done-order streams done step h k = Each-append _ done (step_rows streams done step ∷ []) k (step_rows-order streams done step h k, tt)

pub rows_behind-order : (streams done : List (List Stamped)) (steps : List ReadyStep) → AllInOrder streams → AllInOrder done
    → AllInOrder (rows_behind streams done steps)
rows_behind-order streams done [] h k = k
rows_behind-order streams done (step ∷ steps) h k =
    rows_behind-order streams (done ++ step_rows streams done step ∷ []) steps h (done-order streams done step h k)

-- lists in order that have the same below a time
pub record Agree (x : ℕ) (lists others : List (List Stamped)) : Type 0 where
  pub first_order : AllInOrder lists
  pub other_order : AllInOrder others
  pub same : all_below x lists ≡ all_below x others

pub first_rows-same : (x : ℕ) (streams others done made : List (List Stamped)) (step : Step) → all_below x streams ≡ all_below x others → all_below x done ≡ all_below x made
    → below x (first_rows streams done step) ≡ below x (first_rows others made step)
first_rows-same x streams others done made step a b =
    sym (first_rows-map (below x) refl streams done step)
    ∙ ap (λ lists. first_rows lists (all_below x done) step) a
    ∙ ap (λ lists. first_rows (all_below x others) lists step) b
    ∙ first_rows-map (below x) refl others made step

pub second_rows-same : (x : ℕ) (done made : List (List Stamped)) (step : Step) → all_below x done ≡ all_below x made
    → below x (second_rows done step) ≡ below x (second_rows made step)
second_rows-same x done made step b =
    sym (second_rows-map (below x) refl done step)
    ∙ ap (λ lists. second_rows lists step) b
    ∙ second_rows-map (below x) refl made step

-- the rows of a step below a time depend on those of its inputs below it alone
pub step_rows-same : (x : ℕ) (streams others done made : List (List Stamped)) (step : ReadyStep) → Agree x streams others → Agree x done made
    → below x (step_rows streams done step) ≡ below x (step_rows others made step)
step_rows-same x streams others done made step a b =
    step-laws.past_only step (first_rows streams done step.step) (second_rows done step.step) x tt
    (first_rows-order streams done step.step a.first_order b.first_order) (second_rows-order done step.step b.first_order)
    ∙ ap (λ rows. below x (step_meaning step rows (below x (second_rows done step.step)))) (first_rows-same x streams others done made step.step a.same b.same)
    ∙ ap (λ rows. below x (step_meaning step (below x (first_rows others made step.step)) rows)) (second_rows-same x done made step.step b.same)
    ∙ sym (step-laws.past_only step (first_rows others made step.step) (second_rows made step.step) x tt
    (first_rows-order others made step.step a.other_order b.other_order) (second_rows-order made step.step b.other_order))

all_below-append : (x : ℕ) (lists : List (List Stamped)) (rows : List Stamped) → all_below x (lists ++ rows ∷ []) ≡ all_below x lists ++ below x rows ∷ []
all_below-append x [] rows = refl
all_below-append x (first ∷ lists) rows = ap (λ l. below x first ∷ l) (all_below-append x lists rows)

pub Agree-done : (x : ℕ) (streams others done made : List (List Stamped)) (step : ReadyStep) → Agree x streams others → Agree x done made
    → Agree x (done ++ step_rows streams done step ∷ []) (made ++ step_rows others made step ∷ [])
Agree-done x streams others done made step a b = record {
  first_order = done-order streams done step a.first_order b.first_order;
  other_order = done-order others made step a.other_order b.other_order;
  same =
      all_below-append x done (step_rows streams done step)
      ∙ ap (λ lists. lists ++ below x (step_rows streams done step) ∷ []) b.same
      ∙ ap (λ rows. all_below x made ++ rows ∷ []) (step_rows-same x streams others done made step a b)
      ∙ sym (all_below-append x made (step_rows others made step));
}

pub rows_behind-same : (x : ℕ) (streams others done made : List (List Stamped)) (steps : List ReadyStep) → Agree x streams others → Agree x done made
    → all_below x (rows_behind streams done steps) ≡ all_below x (rows_behind others made steps)
rows_behind-same x streams others done made [] a b = b.same
rows_behind-same x streams others done made (step ∷ steps) a b =
    rows_behind-same x streams others (done ++ step_rows streams done step ∷ []) (made ++ step_rows others made step ∷ []) steps a
    (Agree-done x streams others done made step a b)

pub all_below-order : (x : ℕ) (lists : List (List Stamped)) → AllInOrder lists → AllInOrder (all_below x lists)
all_below-order x [] h = tt
all_below-order x (rows ∷ lists) h = (IsInOrder-filter time_of _ rows h.0, all_below-order x lists h.1)

pub all_below-twice : (x : ℕ) (lists : List (List Stamped)) → all_below x (all_below x lists) ≡ all_below x lists
all_below-twice x [] = refl
all_below-twice x (rows ∷ lists) =
    ap (λ l. l ∷ all_below x (all_below x lists)) (rows_below-rows_below time_of x x rows (omega arith))
    ∙ ap (λ l. below x rows ∷ l) (all_below-twice x lists)

pub Agree-below : (x : ℕ) (streams : List (List Stamped)) → AllInOrder streams → Agree x streams (all_below x streams)
Agree-below x streams h = record {
  first_order = h;
  other_order = all_below-order x streams h;
  same = sym (all_below-twice x streams);
}

pub Agree-none : (x : ℕ) → Agree x [] []
Agree-none x = record { first_order = tt; other_order = tt; same = refl }

outputs-same : (x : ℕ) (done made : List (List Stamped)) → all_below x done ≡ all_below x made → (outputs : List Output)
    → all_below x (map (output_rows done) outputs) ≡ all_below x (map (output_rows made) outputs)
outputs-same x done made h [] = refl
outputs-same x done made h (output ∷ outputs) =
    let here : below x (list_at done output.step) ≡ below x (list_at made output.step) =
    sym (list_at-map (below x) refl done output.step)
    ∙ ap (λ lists. list_at lists output.step) h
    ∙ list_at-map (below x) refl made output.step in
    ap (λ l. l ∷ all_below x (map (output_rows done) outputs)) here
    ∙ ap (λ l. below x (list_at made output.step) ∷ l) (outputs-same x done made h outputs)

outputs-order : (done : List (List Stamped)) → AllInOrder done → (outputs : List Output) → AllInOrder (map (output_rows done) outputs)
outputs-order done h [] = tt
outputs-order done h (output ∷ outputs) = (list_at-order done output.step h, outputs-order done h outputs)

-- streams that have the same below a time give outputs that do
pub outputs_over-same : (plan : ReadyPlan) (x : ℕ) (streams others : List (List Stamped)) → Agree x streams others
    → all_below x (outputs_over plan streams) ≡ all_below x (outputs_over plan others)
outputs_over-same plan x streams others a =
    outputs-same x (rows_of_steps streams plan.steps) (rows_of_steps others plan.steps) (rows_behind-same x streams others [] [] plan.steps a (Agree-none x)) plan.outputs

pub plan-laws : (plan : ReadyPlan) → PlanLaws plan
plan-laws plan = record {
  past_only = λ streams x h. outputs_over-same plan x streams (all_below x streams) (Agree-below x streams h);
  in_order = λ streams h. outputs-order (rows_of_steps streams plan.steps) (rows_behind-order streams [] plan.steps h tt) plan.outputs;
}
