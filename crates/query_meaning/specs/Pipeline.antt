-- Which rows the operators of a plan's steps were given.
use Rattle.std.specs.Prelude.{◌≡◌, ℕ, ◌≤◌, List, [], ◌∷◌, ◌++◌, length}
use Rattle.event_value.specs.declared.record.Stamped.{Stamped}
use Rattle.stream_op.specs.Laws.{Advances as Advances_by, Standing}
use Rattle.stream_op.specs.Rows.{below}
use Rattle.query_meaning.specs.Lists.{AllInOrder, AreNew, all_between, behind_each}
use Rattle.query_meaning.specs.Meaning.{outputs_over}
use Rattle.query_meaning.specs.Steps.{first_rows, second_rows, step_meaning, step_rows}
use Rattle.query_meaning.specs.contracts.step_op.StepOpStreamOp.TheImpl.{ghosts}
use Rattle.query_meaning.specs.declared.step_op.StepOp.{StepOp}
use Rattle.query_meaning.specs.declared.pipeline.Pipeline.{Pipeline}
use Rattle.query_meaning.specs.declared.ready.ReadyPlan.{ReadyPlan}
use Rattle.query_meaning.specs.declared.ready.ReadyStep.{ReadyStep}

-- the operator runs this step and was given these rows of its inputs, which are all below a moment
abbrev pub has_taken : Standing StepOp ReadyStep
has_taken = ghosts.stands

-- what an operator owes where it goes on by these new rows of its inputs
abbrev pub GoesOn : StepOp → List Stamped → List Stamped → ℕ → StepOp → List Stamped → Type 0
GoesOn old left right upto new rows = Advances_by step_meaning has_taken old left right upto new rows

-- the operator of a step, behind steps with these rows, was given the rows of its inputs below w
abbrev pub IsGiven : List (List Stamped) → List (List Stamped) → StepOp → ReadyStep → ℕ → Type 0
IsGiven streams done op step w =
    has_taken op step (below w (first_rows streams done step.step)) (below w (second_rows done step.step)) w

-- the operators of further steps, each for itself
abbrev pub AreGiven : List (List Stamped) → List (List Stamped) → List StepOp → List ReadyStep → ℕ → Type 0
AreGiven streams done [] [] w = Unit {0}
AreGiven streams done [] (step ∷ steps) w = ⊥
AreGiven streams done (op ∷ ops) [] w = ⊥
AreGiven streams done (op ∷ ops) (step ∷ steps) w =
    IsGiven streams done op step w
    × AreGiven streams (done ++ step_rows streams done step ∷ []) ops steps w

-- The pipeline runs this plan over these streams, which are in order of time, and was given their rows below w;
-- what they have from w on it doesn't know.
pub record IsAt (pipeline : Pipeline) (plan : ReadyPlan) (streams : List (List Stamped)) (w : ℕ) : Type 0 where
  pub upto_is : pipeline.upto ≡ w
  pub in_order : AllInOrder streams
  pub are_given : AreGiven streams [] pipeline.ops plan.steps w

-- For whatever streams and moment the pipeline is at: given what the streams have up to the new moment, the
-- answer is what each output has from the old moment to below the new one, and the new pipeline is there.
abbrev pub Advances : Pipeline → ReadyPlan → List (List Stamped) → ℕ → Pipeline → List (List Stamped) → Type 0
Advances old plan given upto new rows =
    (streams : List (List Stamped)) (w : ℕ) → IsAt old plan streams w → w ≤ upto → AreNew w upto streams given
    → (rows ≡ all_between w upto (outputs_over plan streams)) × IsAt new plan streams upto

-- The pipeline goes on from where it is to a later moment; the new rows of the outputs stand behind those that were
-- given.
abbrev pub TakesPiece : Pipeline → ReadyPlan → List (List Stamped) → ℕ → List (List Stamped) → Pipeline → List (List Stamped) → Type 0
TakesPiece old plan sources upto given new rows =
    (streams : List (List Stamped)) → IsAt old plan streams old.upto → old.upto ≤ upto → AreNew old.upto upto streams sources
    → length given ≡ length plan.outputs
    → (rows ≡ behind_each given (all_between old.upto upto (outputs_over plan streams))) × IsAt new plan streams upto
