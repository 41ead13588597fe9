-- What one entry more adds to a lane.
use Rattle.std.proofs.Common.{◌≡◌, ℕ, List, [], ◌∷◌, ◌++◌, refl, ap, sym, ◌∙◌, append_assoc}
use Rattle.std.proofs.lemmas.List.{append-nil}
use Rattle.event_value.specs.declared.record.Dropped.{Dropped as DroppedRecord}
use Rattle.event_value.specs.declared.record.Event.{Event}
use Rattle.event_value.specs.declared.record.Position.{Position}
use Rattle.arrival_log.specs.Kept.{Judge, policy_entries, policy_entry, verdict_behind, entry_event, entry_drop, events_behind, drops_behind}
use Rattle.arrival_log.specs.Log.{LaneEntry, position, place_after, place_behind}

pub place_after-push : (place : Position) (front : List LaneEntry) (e : LaneEntry)
    → place_after place (front ++ e ∷ []) ≡ place_behind (place_after place front) e
place_after-push place [] e = refl
place_after-push place (x ∷ xs) e = place_after-push (place_behind place x) xs e

pub policy_entries-push : (j : Judge) (front : List LaneEntry) (e : LaneEntry)
    → policy_entries j (front ++ e ∷ []) ≡ policy_entries j front ++ policy_entry j e ∷ []
policy_entries-push j [] e = refl
policy_entries-push j (x ∷ xs) e = ap (λ rest. policy_entry j x ∷ rest) (policy_entries-push j xs e)

-- the event of an entry behind these
event_behind : Judge → ℕ → LaneEntry → List LaneEntry → List Event
event_behind j partition e before = entry_event partition (position before) e (verdict_behind j before e)

pub events_behind-push : (j : Judge) (partition : ℕ) (before front : List LaneEntry) (e : LaneEntry)
    → events_behind j partition before (front ++ e ∷ [])
    ≡ events_behind j partition before front
    ++ entry_event partition (position (before ++ front)) e (verdict_behind j (before ++ front) e)
unfolding event_behind
events_behind-push j partition before [] e =
    append-nil (event_behind j partition e before) ∙ ap (event_behind j partition e) (sym (append-nil before))
events_behind-push j partition before (x ∷ xs) e =
    ap (λ rest. event_behind j partition x before ++ rest) (events_behind-push j partition (before ++ x ∷ []) xs e)
    ∙ sym (append_assoc (event_behind j partition x before) (events_behind j partition (before ++ x ∷ []) xs) _)
    ∙ ap (λ (all : List LaneEntry). (event_behind j partition x before ++ events_behind j partition (before ++ x ∷ []) xs)
    ++ event_behind j partition e all) (append_assoc before (x ∷ []) xs)

-- the dropped record of an entry behind these
drop_behind : Judge → ℕ → ℕ → LaneEntry → List LaneEntry → List DroppedRecord
drop_behind j stream partition e before = entry_drop stream partition (position before) (verdict_behind j before e)

pub drops_behind-push : (j : Judge) (stream partition : ℕ) (before front : List LaneEntry) (e : LaneEntry)
    → drops_behind j stream partition before (front ++ e ∷ [])
    ≡ drops_behind j stream partition before front
    ++ entry_drop stream partition (position (before ++ front)) (verdict_behind j (before ++ front) e)
unfolding drop_behind
drops_behind-push j stream partition before [] e =
    append-nil (drop_behind j stream partition e before) ∙ ap (drop_behind j stream partition e) (sym (append-nil before))
drops_behind-push j stream partition before (x ∷ xs) e =
    ap (λ rest. drop_behind j stream partition x before ++ rest) (drops_behind-push j stream partition (before ++ x ∷ []) xs e)
    ∙ sym (append_assoc (drop_behind j stream partition x before) (drops_behind j stream partition (before ++ x ∷ []) xs) _)
    ∙ ap (λ (all : List LaneEntry). (drop_behind j stream partition x before ++ drops_behind j stream partition (before ++ x ∷ []) xs)
    ++ drop_behind j stream partition e all) (append_assoc before (x ∷ []) xs)
