-- Feeds and cuts in any order.
use Rattle.std.proofs.Common.{◌≡◌, ◌≤◌, ℕ, zero, suc, Bool, false, List, [], ◌∷◌, ◌++◌, map, Some, refl, ap, sym, ◌∙◌, subst, append_assoc, arith}
use Rattle.std.specs.Prelude.{slice_get}
use Rattle.event_value.specs.declared.policy.Policy.{Policy}
use Rattle.event_value.specs.declared.record.Stamped.{Stamped}
use Rattle.row_order.proofs.StretchLemmas.{rows_below-append-rows_between, rows_below-rows_below}
use Rattle.stream_op.specs.Rows.{below, time_of}
use Rattle.tick_time.specs.Moment.{end_ticks}
use Rattle.arrival_log.specs.Log.{LaneEntry}
use Rattle.query_meaning.specs.Lists.{AllInOrder, all_below, all_between, behind_each}
use Rattle.query_meaning.specs.Meaning.{rows_of_outputs}
use Rattle.query_meaning.specs.declared.ready.ReadyPlan.{ReadyPlan}
use Rattle.query_meaning.specs.Streams.{rows_of_streams, watermark_of_streams}
use Rattle.query_meaning.proofs.PlanLemmas.{outputs_over-same, plan-laws}
use Rattle.job_core.specs.Heard.{LaneHeard, cut_lane, entries, log_of, with_lane}
use Rattle.job_core.specs.Lane.{open_watermark}
use Rattle.job_core.specs.Lanes.{AreAsMany, AreOfStreams, LaneName, least}
use Rattle.job_core.specs.Schedule.{AnySchedule, AreOpenSteps, CoreStep, Cut, Feed, IsOpenStep, fed_lane, final_below, given_after, heard_after, heard_after_step, meaning, upto_after}
use Rattle.job_core.proofs.CoreLemmas.{many-with_lane, picked-fed, rows-agree}
use Rattle.job_core.proofs.LaneLemmas.{fed-settled, open-settled, open_watermark-more}
use Rattle.job_core.proofs.StreamLemmas.{each_lane, least-within, log-cut, mark_of, rows-order, watermark-least}

many-cut : (names : List LaneName) (heard : List LaneHeard) → AreAsMany names heard → AreAsMany names (map cut_lane heard)
many-cut [] [] h = tt
many-cut [] (k ∷ heard) h = absurd h
many-cut (name ∷ names) [] h = absurd h
many-cut (name ∷ names) (k ∷ heard) h = many-cut names heard h

many-after : (names : List LaneName) (heard : List LaneHeard) (step : CoreStep) → AreAsMany names heard → AreAsMany names (heard_after_step heard step)
many-after names heard (Feed place more closed) h = many-with_lane names heard (fed_lane more closed) place h
many-after names heard Cut h = many-cut names heard h

-- a mark that was no lower than w is none after further entries
mark-fed : (policy : Policy) (name : LaneName) (h : LaneHeard) (w : ℕ) (more : List LaneEntry) (closed : Bool) → w ≤ end_ticks → h.closed ≡ false → w ≤ mark_of policy name h
    → w ≤ mark_of policy name (fed_lane more closed h)
mark-fed policy name h w more closed before_end is_open le =
    let open_le = open-settled policy name.used h w is_open le in
    let longer : w ≤ open_watermark policy name.used (h.before ++ (h.since ++ more)) =
    subst (λ all. w ≤ open_watermark policy name.used all) (append_assoc h.before h.since more) (omega (arith, open_le, open_watermark-more policy name.used (entries h) more)) in
    fed-settled policy name.used (h.before ++ (h.since ++ more)) w closed before_end longer

marks-fed : (policy : Policy) (names : List LaneName) (heard : List LaneHeard) (w place : ℕ) (more : List LaneEntry) (closed : Bool) → w ≤ end_ticks → AreAsMany names heard
    → ((h : LaneHeard) → slice_get heard place ≡ Some h → h.closed ≡ false) → w ≤ least (each_lane (mark_of policy) names heard)
    → w ≤ least (each_lane (mark_of policy) names (with_lane (fed_lane more closed) place heard))
marks-fed policy [] [] w place more closed before_end many is_open le = before_end
marks-fed policy [] (k ∷ heard) w place more closed before_end many is_open le = absurd many
marks-fed policy (name ∷ names) [] w place more closed before_end many is_open le = absurd many
marks-fed policy (name ∷ names) (k ∷ heard) w zero more closed before_end many is_open le =
    omega (arith, le, mark-fed policy name k w more closed before_end (is_open k refl) (omega (arith, le)))
marks-fed policy (name ∷ names) (k ∷ heard) w (suc place) more closed before_end many is_open le =
    omega (arith, le, marks-fed policy names heard w place more closed before_end many is_open (omega (arith, le)))

lists-join : (w u : ℕ) (lists : List (List Stamped)) → w ≤ u → AllInOrder lists → behind_each (all_below w lists) (all_between w u lists) ≡ all_below u lists
lists-join w u [] le h = refl
lists-join w u (rows ∷ lists) le h =
    ap (λ r. r ∷ behind_each (all_below w lists) (all_between w u lists)) (rows_below-append-rows_between time_of w u rows le h.0)
    ∙ ap (λ l. below u rows ∷ l) (lists-join w u lists le h.1)

lists-lower : (v w : ℕ) (lists others : List (List Stamped)) → v ≤ w → all_below w lists ≡ all_below w others → all_below v lists ≡ all_below v others
lists-lower v w lists others le same = sym (lower lists) ∙ ap (all_below v) same ∙ lower others
  where
    lower : (ls : List (List Stamped)) → all_below v (all_below w ls) ≡ all_below v ls
    lower [] = refl
    lower (rows ∷ ls) =
        ap (λ r. r ∷ all_below v (all_below w ls)) (rows_below-rows_below time_of v w rows le)
        ∙ ap (λ l. below v rows ∷ l) (lower ls)

module _ (plan : ReadyPlan) (policy : Policy) (counts : List ℕ) (names : List LaneName) (of : AreOfStreams plan.streams counts names) where
  marks : (heard : List LaneHeard) (w : ℕ) → AreAsMany names heard → w ≤ final_below plan policy counts heard → w ≤ least (each_lane (mark_of policy) names heard)
  marks heard w many le = subst (λ n. w ≤ n) (watermark-least policy plan.streams counts names heard of many) le

  -- a feed changes nothing below w, and w is still final
  step-same : (heard : List LaneHeard) (w : ℕ) (step : CoreStep) → AreAsMany names heard → w ≤ final_below plan policy counts heard → IsOpenStep heard step
      → all_below w (meaning plan policy counts heard) ≡ all_below w (meaning plan policy counts (heard_after_step heard step))
  step-same heard w (Feed place more closed) many le is_open =
      let after = with_lane (fed_lane more closed) place heard in
      outputs_over-same plan w (rows_of_streams policy plan.streams (log_of counts heard)) (rows_of_streams policy plan.streams (log_of counts after))
      (rows-agree policy plan.streams counts names heard after w of many (many-with_lane names heard (fed_lane more closed) place many)
      (sym (picked-fed policy names heard w place (fed_lane more closed) more (λ h. sym (append_assoc h.before h.since more)) is_open many (marks heard w many le))))
  step-same heard w Cut many le is_open =
      ap (λ log. all_below w (rows_of_outputs plan policy log)) (sym (log-cut counts heard))

  step-final : (heard : List LaneHeard) (w : ℕ) (step : CoreStep) → AreAsMany names heard → w ≤ final_below plan policy counts heard → IsOpenStep heard step
      → w ≤ final_below plan policy counts (heard_after_step heard step)
  step-final heard w (Feed place more closed) many le is_open =
      let after = with_lane (fed_lane more closed) place heard in
      let low = marks heard w many le in
      subst (λ n. w ≤ n) (sym (watermark-least policy plan.streams counts names after of (many-with_lane names heard (fed_lane more closed) place many)))
      (marks-fed policy names heard w place more closed (omega (arith, low, least-within (each_lane (mark_of policy) names heard))) many is_open low)
  step-final heard w Cut many le is_open = subst (λ log. w ≤ watermark_of_streams policy plan.streams log) (sym (log-cut counts heard)) le

  meaning-order : (heard : List LaneHeard) → AllInOrder (meaning plan policy counts heard)
  meaning-order heard = (plan-laws plan).in_order (rows_of_streams policy plan.streams (log_of counts heard)) (rows-order policy plan.streams (log_of counts heard))

  pub steps-settled : (heard : List LaneHeard) (w : ℕ) (steps : List CoreStep) → AreAsMany names heard → w ≤ final_below plan policy counts heard → AreOpenSteps heard steps
      → all_below w (meaning plan policy counts (heard_after heard steps)) ≡ all_below w (meaning plan policy counts heard)
  steps-settled heard w [] many le is_open = refl
  steps-settled heard w (step ∷ steps) many le is_open =
      let after = heard_after_step heard step in
      steps-settled after w steps (many-after names heard step many) (step-final heard w step many le is_open.0) is_open.1
      ∙ sym (step-same heard w step many le is_open.0)

  pub steps-whole : (heard : List LaneHeard) (w : ℕ) (steps : List CoreStep) (given : List (List Stamped)) → AreAsMany names heard → w ≤ final_below plan policy counts heard → AreOpenSteps heard steps
      → given ≡ all_below w (meaning plan policy counts heard)
      → given_after plan policy counts given heard w steps ≡ all_below (upto_after plan policy counts heard w steps) (meaning plan policy counts (heard_after heard steps))
  steps-whole heard w [] given many le is_open is = is
  steps-whole heard w (Feed place more closed ∷ steps) given many le is_open is =
      let step = Feed place more closed in
      steps-whole (heard_after_step heard step) w steps given (many-after names heard step many) (step-final heard w step many le is_open.0) is_open.1
      (is ∙ step-same heard w step many le is_open.0)
  steps-whole heard w (Cut ∷ steps) given many le is_open is =
      let u = final_below plan policy counts heard in
      let same : u ≤ u = omega arith in
      steps-whole (map cut_lane heard) u steps (behind_each given (all_between w u (meaning plan policy counts heard))) (many-after names heard Cut many) (step-final heard u Cut many same tt) is_open.1
      (ap (λ g. behind_each g (all_between w u (meaning plan policy counts heard))) is
      ∙ lists-join w u (meaning plan policy counts heard) le (meaning-order heard)
      ∙ step-same heard u Cut many same tt)

pub any-schedule : (plan : ReadyPlan) (policy : Policy) (counts : List ℕ) → AnySchedule plan policy counts
any-schedule plan policy counts = record {
  whole = λ names heard w steps of many le is_open. steps-whole plan policy counts names of heard w steps (all_below w (meaning plan policy counts heard)) many le is_open refl;
  settled = λ names heard w steps of many le is_open. steps-settled plan policy counts names of heard w steps many le is_open;
}
