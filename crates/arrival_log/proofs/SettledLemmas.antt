-- The events of a lane below its watermark.
use Rattle.std.proofs.Common.{◌≡◌, ◌≤◌, ℕ, List, [], ◌∷◌, ◌++◌, Option, Some, None, refl, ap, sym, ◌∙◌, append_assoc, arith}
use Rattle.std.proofs.lemmas.Bool.Decides.{nat_tests}
use Rattle.std.proofs.lemmas.List.{append-nil}
use Rattle.std.proofs.lemmas.List.Elements.{filter-append}
use Rattle.std.specs.Prelude.{nat_lt}
use Rattle.event_value.specs.declared.record.Event.{Event}
use Rattle.event_value.specs.declared.record.Position.{Position}
use Rattle.event_value.specs.declared.value.Value.{Value}
use Rattle.time_policy.proofs.WatermarkLemmas.{kept_from_watermark, never_falls}
use Rattle.time_policy.specs.Verdicts.{watermark}
use Rattle.time_policy.specs.declared.verdict.Verdict.{Verdict}
use Rattle.time_policy.specs.declared.verdict.Verdict.TheVariants.{Kept, Dropped}
use Rattle.arrival_log.specs.Kept.{Judge, policy_entries, policy_entry, verdict_behind, kept_record, entry_event, lane_events, events_below}
use Rattle.arrival_log.specs.Laws.{AreSettled}
use Rattle.arrival_log.specs.Log.{LaneEntry, Record, Broken, End, position}
use Rattle.arrival_log.proofs.EntryLemmas.{events_behind-push, policy_entries-push}

kept_record-below : (w partition : ℕ) (place : Position) (values : List Value) (v : Option Verdict)
    → ((t : ℕ) → v ≡ Some (Kept t) → w ≤ t) → events_below w (kept_record partition place values v) ≡ []
kept_record-below w partition place values (Some (Kept t)) h = let a = h t refl in grind (arith, nat_tests)
kept_record-below w partition place values (Some (Dropped rule)) h = refl
kept_record-below w partition place values None h = refl

entry_event-below : (w partition : ℕ) (place : Position) (e : LaneEntry) (v : Option Verdict)
    → ((t : ℕ) → v ≡ Some (Kept t) → w ≤ t) → events_below w (entry_event partition place e v) ≡ []
entry_event-below w partition place (Record enqueued through values) v h = kept_record-below w partition place values v h
entry_event-below w partition place (Broken rule) v h = refl
entry_event-below w partition place (End through) v h = refl

-- an entry more changes nothing below the watermark
settled-by_one : (j : Judge) (partition w : ℕ) (front : List LaneEntry) (e : LaneEntry)
    → w ≤ watermark j.rules (policy_entries j front)
    → events_below w (lane_events j partition (front ++ e ∷ [])) ≡ events_below w (lane_events j partition front)
settled-by_one j partition w front e low =
    ap (events_below w) (events_behind-push j partition [] front e)
    ∙ filter-append (λ (x : Event). nat_lt x.time w) (lane_events j partition front)
    (entry_event partition (position front) e (verdict_behind j front e))
    ∙ ap (λ rest. events_below w (lane_events j partition front) ++ rest)
    (entry_event-below w partition (position front) e (verdict_behind j front e)
    (λ t is. let at_least = kept_from_watermark j.rules (policy_entries j front) (policy_entry j e) t is in omega arith))
    ∙ append-nil (events_below w (lane_events j partition front))

-- nor makes it the watermark fall
watermark-by_one : (j : Judge) (w : ℕ) (front : List LaneEntry) (e : LaneEntry)
    → w ≤ watermark j.rules (policy_entries j front) → w ≤ watermark j.rules (policy_entries j (front ++ e ∷ []))
watermark-by_one j w front e low =
    let up = never_falls j.rules (policy_entries j front) (policy_entry j e ∷ []) in
    let same = ap (watermark j.rules) (policy_entries-push j front e) in
    omega (arith, up, same)

pub settled : (j : Judge) → AreSettled j
settled j partition w front [] low =
    ap (λ (all : List LaneEntry). events_below w (lane_events j partition all)) (append-nil front)
settled j partition w front (e ∷ more) low =
    ap (λ (all : List LaneEntry). events_below w (lane_events j partition all)) (sym (append_assoc front (e ∷ []) more))
    ∙ settled j partition w (front ++ e ∷ []) more (watermark-by_one j w front e low)
    ∙ settled-by_one j partition w front e low
