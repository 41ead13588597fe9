-- A state that stands for a lane's entries, and the state after the next one.
use Rattle.std.proofs.Common.{◌≡◌, ℕ, min, max, Bool, true, false, cond, List, [], ◌∷◌, ◌++◌}
use Rattle.std.proofs.Common.{Option, Some, refl, ap, sym, ◌∙◌, subst}
use Rattle.std.specs.Prelude.{unwrap_or}
use Rattle.event_value.specs.declared.record.Rule.{Rule}
use Rattle.event_value.specs.declared.value.Value.{Value}
use Rattle.time_policy.specs.Entry.{Entry, Good, Bad, Mark}
use Rattle.time_policy.specs.PolicyState.{LaneState, StandsFor}
use Rattle.time_policy.specs.Steps.{MarksAfterRecord, MarksAfterVerdict, earliest_time_in}
use Rattle.time_policy.specs.Steps.{watermark_after_mark, watermark_after_record}
use Rattle.time_policy.specs.SubstreamMarks.{mark_in}
use Rattle.time_policy.specs.Verdicts.{arrival, earliest_time, history, kept_mark, mark_of, verdict, verdict_by_rules}
use Rattle.time_policy.specs.Verdicts.{watermark, watermark_of}
use Rattle.time_policy.specs.declared.rules.Rules.{Rules}
use Rattle.time_policy.specs.declared.verdict.Verdict.{Verdict}
use Rattle.time_policy.proofs.HistoryLemmas.{arrival-bad, arrival-push, verdict-good, watermark-bad, watermark-good, watermark-mark}
use Rattle.time_policy.proofs.MarkLemmas.{kept_mark-bad, kept_mark-good, kept_mark-mark, unwrap_or-kept_mark_of}

earliest_time_in-is : (s : LaneState) (front : List Entry) (k : List Value) → StandsFor s front
    → earliest_time_in s k ≡ earliest_time s.rules k (history s.rules front)
earliest_time_in-is s front k h = by_over s.rules.over refl
  where
    by_over : (b : Bool) → s.rules.over ≡ b → earliest_time_in s k ≡ earliest_time s.rules k (history s.rules front)
    by_over true o =
        ap (λ b. cond b (unwrap_or (mark_in s.marks k) 0) s.watermark) o
        ∙ ap (λ m. unwrap_or m 0) (h.marks_are o k)
        ∙ unwrap_or-kept_mark_of s.rules k (history s.rules front)
        ∙ sym (ap (λ b. cond b (mark_of s.rules k (history s.rules front)) (watermark_of s.rules (history s.rules front))) o)
    by_over false o =
        ap (λ b. cond b (unwrap_or (mark_in s.marks k) 0) s.watermark) o
        ∙ h.watermark_is
        ∙ sym (ap (λ b. cond b (mark_of s.rules k (history s.rules front)) (watermark_of s.rules (history s.rules front))) o)

-- a state that stands for a lane's entries judges the next record as they do
pub verdict-is : (s : LaneState) (front : List Entry) (e t : ℕ) (st : Option ℕ) (k : List Value) (a m : ℕ) (v : Verdict)
    → StandsFor s front → a ≡ max s.arrival (min e t) → m ≡ earliest_time_in s k → v ≡ verdict_by_rules s.rules a m st
    → verdict s.rules front (Good e t st k) ≡ Some v
verdict-is s front e t st k a m v h ea em ev =
    verdict-good s.rules front e t st k
    ∙ ap (λ x. Some (verdict_by_rules s.rules (max x (min e t)) (earliest_time s.rules k (history s.rules front)) st)) (sym h.arrival_is)
    ∙ ap (λ x. Some (verdict_by_rules s.rules x (earliest_time s.rules k (history s.rules front)) st)) (sym ea)
    ∙ ap (λ x. Some (verdict_by_rules s.rules a x st)) (sym (earliest_time_in-is s front k h) ∙ sym em)
    ∙ ap Some (sym ev)

-- and the state that follows stands for them and it
pub stands-good : (s next : LaneState) (front : List Entry) (e t : ℕ) (st : Option ℕ) (k : List Value) (m : ℕ) (v : Verdict)
    → StandsFor s front → next.rules ≡ s.rules → next.arrival ≡ max s.arrival (min e t) → m ≡ earliest_time_in s k
    → v ≡ verdict_by_rules s.rules next.arrival m st
    → next.watermark ≡ watermark_after_record s.rules s.watermark next.arrival v
    → MarksAfterRecord s.rules k m v s.marks next.marks
    → StandsFor next (front ++ Good e t st k ∷ [])
stands-good s next front e t st k m v h er ea em ev ew after =
    let arrived : next.arrival ≡ max (arrival front) (min e t) = ea ∙ ap (λ x. max x (min e t)) h.arrival_is in
    let is : verdict s.rules front (Good e t st k) ≡ Some v = verdict-is s front e t st k next.arrival m v h ea em ev in
    record {
      arrival_is = arrived ∙ sym (arrival-push front (Good e t st k));
      watermark_is =
          ew ∙ ap (λ x. watermark_after_record s.rules x next.arrival v) h.watermark_is
          ∙ ap (λ x. watermark_after_record s.rules (watermark s.rules front) x v) arrived
          ∙ sym (watermark-good s.rules front e t st k v is)
          ∙ ap (λ r. watermark r (front ++ Good e t st k ∷ [])) (sym er);
      marks_are = λ o key.
          let over : s.rules.over ≡ true = ap (λ (r : Rules). r.over) (sym er) ∙ o in
          let judged : m ≡ unwrap_or (mark_in s.marks k) 0 = em ∙ ap (λ b. cond b (unwrap_or (mark_in s.marks k) 0) s.watermark) over in
          kept_mark-good s.rules front s.marks next.marks e t st k key v (h.marks_are over) is
          (subst (λ (x : ℕ). MarksAfterVerdict s.rules k x v s.marks next.marks) judged (after over))
          ∙ ap (λ r. kept_mark r key (front ++ Good e t st k ∷ [])) (sym er);
    }

pub stands-mark : (s next : LaneState) (front : List Entry) (t : ℕ)
    → StandsFor s front → next.rules ≡ s.rules → next.arrival ≡ max s.arrival t
    → next.watermark ≡ watermark_after_mark s.rules s.watermark next.arrival t → next.marks ≡ s.marks
    → StandsFor next (front ++ Mark t ∷ [])
stands-mark s next front t h er ea ew em =
    let arrived : next.arrival ≡ max (arrival front) t = ea ∙ ap (λ x. max x t) h.arrival_is in
    record {
      arrival_is = arrived ∙ sym (arrival-push front (Mark t));
      watermark_is =
          ew ∙ ap (λ x. watermark_after_mark s.rules x next.arrival t) h.watermark_is
          ∙ ap (λ x. watermark_after_mark s.rules (watermark s.rules front) x t) arrived
          ∙ sym (watermark-mark s.rules front t)
          ∙ ap (λ r. watermark r (front ++ Mark t ∷ [])) (sym er);
      marks_are = λ o key.
          ap (λ marks. mark_in marks key) em
          ∙ h.marks_are (ap (λ (r : Rules). r.over) (sym er) ∙ o) key
          ∙ sym (kept_mark-mark s.rules front key t)
          ∙ ap (λ r. kept_mark r key (front ++ Mark t ∷ [])) (sym er);
    }

-- an item that is no record leaves the state as it is
pub stands-bad : (s : LaneState) (front : List Entry) (rule : Rule) → StandsFor s front → StandsFor s (front ++ Bad rule ∷ [])
stands-bad s front rule h = record {
  arrival_is = h.arrival_is ∙ sym (arrival-bad front rule);
  watermark_is = h.watermark_is ∙ sym (watermark-bad s.rules front rule);
  marks_are = λ o key. h.marks_are o key ∙ sym (kept_mark-bad s.rules front key rule);
}
