-- Operators that go on from one moment to the next.
use Rattle.std.proofs.Common.{◌≡◌, ℕ, ◌≤◌, ◌<◌, Bool, true, false, ◌&&◌, List, [], ◌∷◌, ◌++◌, filter, map, length, not, refl, sym, ap, subst, ◌∙◌, arith}
use Rattle.std.specs.Prelude.{nat_le, nat_lt}
use Rattle.std.proofs.lemmas.Bool.Decides.{nat_tests}
use Rattle.std.proofs.lemmas.List.{length-map}
use Rattle.query_plan.specs.declared.plan.Output.{Output}
use Rattle.query_plan.specs.declared.plan.Step.{Step}
use Rattle.event_value.specs.declared.record.Stamped.{Stamped}
use Rattle.row_order.proofs.ListLemmas.{Each-weaker, Each-all, filter-alike, filter-filter, filter-none, filter-passes, filter-within}
use Rattle.row_order.proofs.StretchLemmas.{IsInOrder-filter, rows_below-append-rows_between, rows_between-append-rows_between}
use Rattle.row_order.specs.InOrder.{AllBelow, AllFrom}
use Rattle.stream_op.proofs.ScheduleLemmas.{below-zero}
use Rattle.stream_op.specs.Laws.{Advances}
use Rattle.stream_op.specs.Rows.{AreInOrder, AreNext, below, between, time_of}
use Rattle.query_meaning.specs.declared.ready.ReadyPlan.{ReadyPlan}
use Rattle.query_meaning.specs.declared.ready.ReadyStep.{ReadyStep}
use Rattle.query_meaning.specs.Lists.{AllInOrder, AreNew, all_between, behind_each}
use Rattle.query_meaning.specs.Meaning.{no_rows, output_rows, outputs_over}
use Rattle.query_meaning.specs.Pipeline.{AreGiven, IsGiven, has_taken}
use Rattle.query_meaning.specs.StepLaws.{step-laws}
use Rattle.query_meaning.specs.Steps.{first_rows, list_at, rows_behind, rows_of_steps, second_rows, step_meaning, step_rows}
use Rattle.query_meaning.specs.declared.step_op.StepOp.{StepOp}
use Rattle.query_meaning.proofs.PlanLemmas.{Agree, Agree-done, first_rows-map, first_rows-order, first_rows-same, list_at-map, second_rows-map, second_rows-order, second_rows-same}

and-first : (a b : Bool) → (a && b) ≡ true → a ≡ true
and-first true b h = refl
and-first false b h = h

and-second : (a b : Bool) → (a && b) ≡ true → b ≡ true
and-second true b h = h
and-second false true h = refl
and-second false false h = h

-- what is between two times is at the earlier one or later, and below the later one
between-from : (w u : ℕ) (rows : List Stamped) → AllFrom time_of w (between w u rows)
between-from w u rows = Each-weaker _ _ (between w u rows) (λ row h. from w u row.time h) (filter-passes _ rows)
  where
    from : (w u t : ℕ) → (nat_le w t && nat_lt t u) ≡ true → w ≤ t
    from w u t h = grind (arith, nat_tests)

between-upto : (w u : ℕ) (rows : List Stamped) → AllBelow time_of u (between w u rows)
between-upto w u rows = Each-weaker _ _ (between w u rows) (λ row h. upto w u row.time h) (filter-passes _ rows)
  where
    upto : (w u t : ℕ) → (nat_le w t && nat_lt t u) ≡ true → t < u
    upto w u t h = grind (arith, nat_tests)

pub between-next : (w u : ℕ) (rows : List Stamped) → AreInOrder rows → AreNext w u (between w u rows)
between-next w u rows h = record {
  in_order = IsInOrder-filter time_of _ rows h;
  from_last = between-from w u rows;
  below_new = between-upto w u rows;
}

pub between-below : (w u : ℕ) (rows : List Stamped) → between w u (below u rows) ≡ between w u rows
between-below w u rows = filter-within _ _ (λ row h. and-second _ _ h) rows

-- what a step makes of its inputs up to a time, it makes of them as they are
pub step-between : (step : ReadyStep) (w u : ℕ) (left right : List Stamped) → w ≤ u → AreInOrder left → AreInOrder right
    → between w u (step_meaning step (below w left ++ between w u left) (below w right ++ between w u right)) ≡ between w u (step_meaning step left right)
step-between step w u left right le h k =
    ap (λ rows. between w u (step_meaning step rows (below w right ++ between w u right))) (rows_below-append-rows_between time_of w u left le h)
    ∙ ap (λ rows. between w u (step_meaning step (below u left) rows)) (rows_below-append-rows_between time_of w u right le k)
    ∙ sym (between-below w u (step_meaning step (below u left) (below u right)))
    ∙ ap (between w u) (sym (step-laws.past_only step left right u tt h k))
    ∙ between-below w u (step_meaning step left right)

-- what is between two times is found again in what is between two wider ones
between-between : (v m w u : ℕ) (rows : List Stamped) → w ≤ v → m ≤ u → between v m (between w u rows) ≡ between v m rows
between-between v m w u rows low high = filter-within _ _ (λ row h. wider v m w u row.time low high h) rows
  where
    wider : (v m w u t : ℕ) → w ≤ v → m ≤ u → (nat_le v t && nat_lt t m) ≡ true → (nat_le w t && nat_lt t u) ≡ true
    wider v m w u t low high h = grind (arith, nat_tests)

all_between-between : (v m w u : ℕ) (lists : List (List Stamped)) → w ≤ v → m ≤ u → all_between v m (all_between w u lists) ≡ all_between v m lists
all_between-between v m w u [] low high = refl
all_between-between v m w u (rows ∷ lists) low high =
    ap (λ l. l ∷ all_between v m (all_between w u lists)) (between-between v m w u rows low high)
    ∙ ap (λ l. between v m rows ∷ l) (all_between-between v m w u lists low high)

pub all_between-twice : (w u : ℕ) (lists : List (List Stamped)) → all_between w u (all_between w u lists) ≡ all_between w u lists
all_between-twice w u lists = all_between-between w u w u lists (omega arith) (omega arith)

-- what is new between two times is so between two that are no wider
pub AreNew-piece : (v m w u : ℕ) (streams given : List (List Stamped)) → w ≤ v → m ≤ u → AreNew w u streams given → AreNew v m streams given
AreNew-piece v m w u streams given low high new = record {
  in_order = new.in_order;
  rows_are =
      sym (all_between-between v m w u given low high)
      ∙ ap (all_between v m) new.rows_are
      ∙ all_between-between v m w u streams low high;
}

-- the rows that aren't before one time, and of them those below another
pub between-parts : (w u : ℕ) (rows : List Stamped) → filter (λ b. nat_lt b.time u) (filter (λ b. not (nat_lt b.time w)) rows) ≡ between w u rows
between-parts w u rows = filter-filter _ _ rows ∙ filter-alike _ _ rows (Each-all _ (λ row. ap (λ b. b && nat_lt row.time u) (not_before w row.time)) rows)
  where
    not_before : (w t : ℕ) → not (nat_lt t w) ≡ nat_le w t
    not_before w t = grind (arith, nat_tests)

between-none : (w : ℕ) (rows : List Stamped) → between w w rows ≡ []
between-none w rows = filter-none _ rows (Each-all _ (λ row. nowhere w row.time) rows)
  where
    nowhere : (w t : ℕ) → (nat_le w t && nat_lt t w) ≡ false
    nowhere w t = grind (arith, nat_tests)

-- ---- lists behind each other

pub behind_each-none : (lists : List (List Stamped)) → behind_each lists [] ≡ []
behind_each-none [] = refl
behind_each-none (rows ∷ lists) = refl

-- what is between two times, and behind it what is from there to a third one
pub behind_each-between : (w v u : ℕ) (lists : List (List Stamped)) → w ≤ v → v ≤ u → AllInOrder lists
    → behind_each (all_between w v lists) (all_between v u lists) ≡ all_between w u lists
behind_each-between w v u [] low high h = refl
behind_each-between w v u (rows ∷ lists) low high h =
    ap (λ l. l ∷ behind_each (all_between w v lists) (all_between v u lists)) (rows_between-append-rows_between time_of w v u rows low high h.0)
    ∙ ap (λ l. between w u rows ∷ l) (behind_each-between w v u lists low high h.1)

-- as many lists as one and further elements: the first, and as many as these
pub as_many-first : {X : Type 0} (lists : List (List Stamped)) (x : X) (xs : List X) → length lists ≡ length (x ∷ xs)
    → (first : List Stamped) × (more : List (List Stamped)) × (lists ≡ first ∷ more) × (length more ≡ length xs)
as_many-first [] x xs many = absurd (omega (arith, many))
as_many-first (first ∷ more) x xs many = (first, more, refl, omega (arith, many))

-- the new rows of a step's inputs
pub first_rows-new : (w u : ℕ) (streams before given done : List (List Stamped)) (step : Step) → AreNew w u streams given → done ≡ all_between w u before
    → between w u (first_rows given done step) ≡ between w u (first_rows streams before step)
first_rows-new w u streams before given done step new is =
    sym (first_rows-map (between w u) refl given done step)
    ∙ ap (λ lists. first_rows lists (all_between w u done) step) new.rows_are
    ∙ ap (λ lists. first_rows (all_between w u streams) (all_between w u lists) step) is
    ∙ ap (λ lists. first_rows (all_between w u streams) lists step) (all_between-twice w u before)
    ∙ first_rows-map (between w u) refl streams before step

pub second_rows-new : (w u : ℕ) (before done : List (List Stamped)) (step : Step) → done ≡ all_between w u before
    → second_rows done step ≡ between w u (second_rows before step)
second_rows-new w u before done step is =
    ap (λ lists. second_rows lists step) is ∙ second_rows-map (between w u) refl before step

all_between-order : (w u : ℕ) (lists : List (List Stamped)) → AllInOrder lists → AllInOrder (all_between w u lists)
all_between-order w u [] h = tt
all_between-order w u (rows ∷ lists) h = (IsInOrder-filter time_of _ rows h.0, all_between-order w u lists h.1)

pub done-in_order : (w u : ℕ) (before done : List (List Stamped)) → AllInOrder before → done ≡ all_between w u before → AllInOrder done
done-in_order w u before done h is = subst AllInOrder (sym is) (all_between-order w u before h)

pub rows_behind-push : (streams done : List (List Stamped)) (steps : List ReadyStep) (step : ReadyStep)
    → rows_behind streams done (steps ++ step ∷ []) ≡ rows_behind streams done steps ++ step_rows streams (rows_behind streams done steps) step ∷ []
rows_behind-push streams done [] step = refl
rows_behind-push streams done (s ∷ ss) step = rows_behind-push streams (done ++ step_rows streams done s ∷ []) ss step

pub all_between-push : (w u : ℕ) (lists : List (List Stamped)) (rows : List Stamped) → all_between w u (lists ++ rows ∷ []) ≡ all_between w u lists ++ between w u rows ∷ []
all_between-push w u [] rows = refl
all_between-push w u (first ∷ lists) rows = ap (λ l. between w u first ∷ l) (all_between-push w u lists rows)

-- one operator more
pub AreGiven-push : (streams done : List (List Stamped)) (ops : List StepOp) (op : StepOp) (steps : List ReadyStep) (step : ReadyStep) (w : ℕ)
    → AreGiven streams done ops steps w → IsGiven streams (rows_behind streams done steps) op step w
    → AreGiven streams done (ops ++ op ∷ []) (steps ++ step ∷ []) w
AreGiven-push streams done [] op [] step w h k = (k, tt)
AreGiven-push streams done [] op (s ∷ ss) step w h k = absurd h
AreGiven-push streams done (o ∷ ops) op [] step w h k = absurd h
AreGiven-push streams done (o ∷ ops) op (s ∷ ss) step w h k =
    (h.0, AreGiven-push streams (done ++ step_rows streams done s ∷ []) ops op ss step w h.1 k)

-- what streams have from w on doesn't matter
IsGiven-same : (w : ℕ) (streams others done made : List (List Stamped)) (op : StepOp) (step : ReadyStep) → Agree w streams others → Agree w done made
    → IsGiven streams done op step w → IsGiven others made op step w
IsGiven-same w streams others done made op step a b h =
    subst (λ rows. has_taken op step (below w (first_rows others made step.step)) rows w) (second_rows-same w done made step.step b.same)
    (subst (λ rows. has_taken op step rows (below w (second_rows done step.step)) w) (first_rows-same w streams others done made step.step a.same b.same) h)

pub AreGiven-same : (w : ℕ) (streams others done made : List (List Stamped)) (ops : List StepOp) (steps : List ReadyStep) → Agree w streams others → Agree w done made
    → AreGiven streams done ops steps w → AreGiven others made ops steps w
AreGiven-same w streams others done made [] [] a b h = tt
AreGiven-same w streams others done made [] (s ∷ ss) a b h = absurd h
AreGiven-same w streams others done made (o ∷ ops) [] a b h = absurd h
AreGiven-same w streams others done made (o ∷ ops) (s ∷ ss) a b h = (
  IsGiven-same w streams others done made o s a b h.0,
  AreGiven-same w streams others (done ++ step_rows streams done s ∷ []) (made ++ step_rows others made s ∷ []) ops ss a (Agree-done w streams others done made s a b) h.1,
)

-- an operator that goes on, by the new rows of its inputs
pub IsGiven-next : (w u : ℕ) (streams before : List (List Stamped)) (op next : StepOp) (step : ReadyStep) (left right rows : List Stamped)
    → w ≤ u → AllInOrder streams → AllInOrder before
    → left ≡ between w u (first_rows streams before step.step) → right ≡ between w u (second_rows before step.step)
    → IsGiven streams before op step w → Advances step_meaning has_taken op left right u next rows
    → (rows ≡ between w u (step_rows streams before step)) × IsGiven streams before next step u
IsGiven-next w u streams before op next step left right rows le h k is_left is_right given advances =
    let f = first_rows streams before step.step in
    let g = second_rows before step.step in
    let f_order = first_rows-order streams before step.step h k in
    let g_order = second_rows-order before step.step k in
    let done = advances step (below w f) (below w g) w given le
    (subst (AreNext w u) (sym is_left) (between-next w u f f_order))
    (subst (AreNext w u) (sym is_right) (between-next w u g g_order)) in
    let left_all : below w f ++ left ≡ below u f = ap (λ l. below w f ++ l) is_left ∙ rows_below-append-rows_between time_of w u f le f_order in
    let right_all : below w g ++ right ≡ below u g = ap (λ l. below w g ++ l) is_right ∙ rows_below-append-rows_between time_of w u g le g_order in (
      done.0
          ∙ ap (λ l. between w u (step_meaning step (below w f ++ l) (below w g ++ right))) is_left
          ∙ ap (λ l. between w u (step_meaning step (below w f ++ between w u f) (below w g ++ l))) is_right
          ∙ step-between step w u f g le f_order g_order,
      subst (λ l. has_taken next step (below u f) l u) right_all (subst (λ l. has_taken next step l (below w g ++ right) u) left_all done.1),
    )

-- a step that is to go on has its operator in front
pub AreGiven-first : (streams done : List (List Stamped)) (ops : List StepOp) (step : ReadyStep) (steps : List ReadyStep) (w : ℕ) → AreGiven streams done ops (step ∷ steps) w
    → (op : StepOp) × (more : List StepOp) × (ops ≡ op ∷ more) × IsGiven streams done op step w × AreGiven streams (done ++ step_rows streams done step ∷ []) more steps w
AreGiven-first streams done [] step steps w h = absurd h
AreGiven-first streams done (op ∷ ops) step steps w h = (op, ops, refl, h.0, h.1)

pub AreGiven-none : (streams done : List (List Stamped)) (ops : List StepOp) (w : ℕ) → ops ≡ [] → AreGiven streams done ops [] w
AreGiven-none streams done ops w h = subst (λ l. AreGiven streams done l [] w) (sym h) tt

-- an operator that was begun was given all rows below moment 0
pub IsGiven-begun : (streams done : List (List Stamped)) (op : StepOp) (step : ReadyStep) → has_taken op step [] [] 0 → IsGiven streams done op step 0
IsGiven-begun streams done op step h =
    subst (λ rows. has_taken op step (below 0 (first_rows streams done step.step)) rows 0) (sym (below-zero (second_rows done step.step)))
    (subst (λ rows. has_taken op step rows [] 0) (sym (below-zero (first_rows streams done step.step))) h)

outputs-between : (w u : ℕ) (done : List (List Stamped)) (outputs : List Output) → map (output_rows (all_between w u done)) outputs ≡ all_between w u (map (output_rows done) outputs)
outputs-between w u done [] = refl
outputs-between w u done (output ∷ outputs) =
    ap (λ l. l ∷ map (output_rows (all_between w u done)) outputs) (list_at-map (between w u) refl done output.step)
    ∙ ap (λ l. between w u (list_at done output.step) ∷ l) (outputs-between w u done outputs)

-- the new rows of the outputs, by those of the steps
pub outputs_over-between : (w u : ℕ) (plan : ReadyPlan) (streams found : List (List Stamped)) (steps : List ReadyStep) (outputs : List Output)
    → steps ≡ plan.steps → outputs ≡ plan.outputs → found ≡ all_between w u (rows_of_steps streams steps)
    → map (output_rows found) outputs ≡ all_between w u (outputs_over plan streams)
outputs_over-between w u plan streams found steps outputs s o f =
    ap (λ done. map (output_rows done) outputs) f
    ∙ outputs-between w u (rows_of_steps streams steps) outputs
    ∙ ap (λ ss. all_between w u (map (output_rows (rows_of_steps streams ss)) outputs)) s
    ∙ ap (λ os. all_between w u (map (output_rows (rows_of_steps streams plan.steps)) os)) o

none_between : (w : ℕ) (done : List (List Stamped)) (outputs : List Output) → map no_rows outputs ≡ all_between w w (map (output_rows done) outputs)
none_between w done [] = refl
none_between w done (output ∷ outputs) =
    ap (λ l. l ∷ map no_rows outputs) (sym (between-none w (list_at done output.step)))
    ∙ ap (λ l. between w w (list_at done output.step) ∷ l) (none_between w done outputs)

-- as many lists of new rows as outputs
pub as_many-outputs : (w u : ℕ) (plan : ReadyPlan) (streams : List (List Stamped)) → length (all_between w u (outputs_over plan streams)) ≡ length plan.outputs
as_many-outputs w u plan streams = as_many w u (rows_of_steps streams plan.steps) plan.outputs
  where
    as_many : (w u : ℕ) (done : List (List Stamped)) (outputs : List Output) → length (all_between w u (map (output_rows done) outputs)) ≡ length outputs
    as_many w u done outputs = length-map (map (output_rows done) outputs) (between w u) ∙ length-map outputs (output_rows done)

-- before the first piece no output has rows
pub no_rows-between : (w : ℕ) (plan : ReadyPlan) (streams : List (List Stamped)) → map no_rows plan.outputs ≡ all_between w w (outputs_over plan streams)
no_rows-between w plan streams = none_between w (rows_of_steps streams plan.steps) plan.outputs
