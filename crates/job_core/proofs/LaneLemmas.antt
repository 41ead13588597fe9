-- A lane that hears one entry more.
use Rattle.std.proofs.Common.{◌≡◌, ◌≤◌, ◌<◌, ℕ, ◌+◌, Bool, true, false, cond, List, [], ◌∷◌, ◌++◌, Option, Some, None, map, take, drop, length, refl, ap, sym, ◌∙◌, subst, append_assoc, append-nil, arith}
use Rattle.std.specs.Prelude.{◌==◌}
use Rattle.std.proofs.lemmas.Bool.{and_right, ne_eqb}
use Rattle.std.proofs.lemmas.List.{drop-append-le, drop-map, length-append, length-drop, length-map, take-append-le, take-map, take_all}
use Rattle.std.proofs.lemmas.List.Elements.{filter-append}
use Rattle.query_plan.specs.declared.plan.StreamUse.{StreamUse}
use Rattle.event_value.specs.declared.policy.Policy.{Policy}
use Rattle.event_value.specs.declared.record.Dropped.{Dropped as DroppedRecord}
use Rattle.event_value.specs.declared.record.Event.{Event}
use Rattle.event_value.specs.declared.record.Item.{Item}
use Rattle.event_value.specs.declared.record.Position.{Position}
use Rattle.event_value.specs.declared.record.Rule.{Rule}
use Rattle.event_value.specs.declared.value.Value.{Value}
use Rattle.row_order.proofs.StretchLemmas.{rows_from-all}
use Rattle.time_policy.proofs.StandsForLemmas.{stands-bad}
use Rattle.time_policy.proofs.WatermarkLemmas.{kept_from_watermark, never_falls}
use Rattle.time_policy.specs.Entry.{Entry, Good, Mark}
use Rattle.time_policy.specs.PolicyState.{LaneState, StandsFor}
use Rattle.time_policy.specs.Verdicts.{verdict, watermark}
use Rattle.time_policy.specs.declared.rules.Rules.{Rules}
use Rattle.time_policy.specs.declared.verdict.Verdict.{Verdict}
use Rattle.time_policy.specs.declared.verdict.Verdict.TheVariants.{Kept, Dropped}
use Rattle.arrival_log.specs.Kept.{Judge, entry_drop, entry_event, kept_record, lane_events, lane_watermark, policy_entries, policy_entry, verdict_behind}
use Rattle.arrival_log.specs.Log.{LaneEntry, Record, Broken, End, item_entry, origin, position, place_behind}
use Rattle.arrival_log.proofs.EntryLemmas.{place_after-push, policy_entries-push, events_behind-push, drops_behind-push}
use Rattle.query_meaning.specs.Streams.{judge_of, stamp_of, substream_of}
use Rattle.tick_time.specs.Moment.{end_ticks}
use Rattle.job_core.specs.Heard.{IsBehindItem, LaneHeard, entries, events_from, heard_lane, is_closed, next_entries}
use Rattle.job_core.specs.Lane.{HasHeard, Hears, HearsAll, IsFed, IsSameLane, open_watermark}
use Rattle.job_core.specs.declared.lane.Lane.{Lane}

-- further entries let the watermark rise
pub open_watermark-more : (policy : Policy) (used : StreamUse) (front more : List LaneEntry) → open_watermark policy used front ≤ open_watermark policy used (front ++ more)
open_watermark-more policy used front more =
    let j = judge_of policy used in
    subst (λ es. watermark j.rules (policy_entries j front) ≤ watermark j.rules es) (sym (policy_entries-append j front more)) (never_falls j.rules (policy_entries j front) (policy_entries j more))
  where
    policy_entries-append : (j : Judge) (front more : List LaneEntry) → policy_entries j (front ++ more) ≡ policy_entries j front ++ policy_entries j more
    policy_entries-append j [] more = refl
    policy_entries-append j (x ∷ xs) more = ap (λ rest. policy_entry j x ∷ rest) (policy_entries-append j xs more)

-- the event of a record that is kept at w or later, if at all
kept_record-late : (partition : ℕ) (place : Position) (values : List Value) (w : ℕ) (v : Option Verdict) → ((t : ℕ) → v ≡ Some (Kept t) → w ≤ t)
    → kept_record partition place values v ≡ events_from w (kept_record partition place values v)
kept_record-late partition place values w (Some (Kept t)) late = sym (rows_from-all (λ (e : Event). e.time) w (kept_record partition place values (Some (Kept t))) (late t refl, tt))
kept_record-late partition place values w (Some (Dropped rule)) late = refl
kept_record-late partition place values w None late = refl

entry_event-late : (j : Judge) (partition w : ℕ) (place : Position) (front : List LaneEntry) (e : LaneEntry) → w ≤ watermark j.rules (policy_entries j front)
    → entry_event partition place e (verdict_behind j front e) ≡ events_from w (entry_event partition place e (verdict_behind j front e))
entry_event-late j partition w place front (Record enqueued through values) le =
    kept_record-late partition place values w (verdict_behind j front (Record enqueued through values))
    (λ t is. omega (arith, le, kept_from_watermark j.rules (policy_entries j front) (policy_entry j (Record enqueued through values)) t is))
entry_event-late j partition w place front (Broken rule) le = refl
entry_event-late j partition w place front (End through) le = refl

-- what an entry with this verdict changes in a lane
record Adds (j : Judge) (old new : Lane) (front : List LaneEntry) (e : LaneEntry) (v : Option Verdict) : Type 0 where
  verdict_is : verdict_behind j front e ≡ v
  used_is : new.used ≡ old.used
  partition_is : new.partition ≡ old.partition
  rules_are : new.state.rules ≡ old.state.rules
  stands : StandsFor new.state (policy_entries j front ++ policy_entry j e ∷ [])
  place_is : new.place ≡ place_behind old.place e
  kept_are : new.kept ≡ old.kept ++ entry_event old.partition old.place e v
  drops_are : new.drops ≡ old.drops ++ entry_drop old.used.stream old.partition old.place v

heard : (policy : Policy) (used : StreamUse) (partition : ℕ) (old new : Lane) (before since : List LaneEntry) (w : ℕ) (e : LaneEntry) (v : Option Verdict)
    → w ≤ open_watermark policy used (before ++ since) → HasHeard policy used partition old before since w
    → Adds (judge_of policy used) old new (before ++ since) e v → HasHeard policy used partition new before (since ++ e ∷ []) w
heard policy used partition old new before since w e v le h a =
    let j = judge_of policy used in
    let front = before ++ since in
    let longer : front ++ e ∷ [] ≡ before ++ (since ++ e ∷ []) = append_assoc before since (e ∷ []) in
    record {
      used_is = a.used_is ∙ h.used_is;
      partition_is = a.partition_is ∙ h.partition_is;
      rules_are = a.rules_are ∙ h.rules_are;
      state_stands =
          subst (λ (all : List LaneEntry). StandsFor new.state (policy_entries j all)) longer
          (subst (λ (es : List Entry). StandsFor new.state es) (sym (policy_entries-push j front e)) a.stands);
      place_is =
          a.place_is
          ∙ ap (λ (p : Position). place_behind p e) h.place_is
          ∙ sym (place_after-push origin front e)
          ∙ ap position longer;
      kept_are =
          a.kept_are
          ∙ ap (λ (n : ℕ). old.kept ++ entry_event n old.place e v) h.partition_is
          ∙ ap (λ (p : Position). old.kept ++ entry_event partition p e v) h.place_is
          ∙ ap (λ (x : Option Verdict). old.kept ++ entry_event partition (position front) e x) (sym a.verdict_is)
          ∙ ap (λ (es : List Event). es ++ entry_event partition (position front) e (verdict_behind j front e)) h.kept_are
          ∙ ap (λ (es : List Event). events_from w (lane_events j partition front) ++ es) (entry_event-late j partition w (position front) front e le)
          ∙ sym (filter-append _ (lane_events j partition front) (entry_event partition (position front) e (verdict_behind j front e)))
          ∙ ap (events_from w) (sym (events_behind-push j partition [] front e))
          ∙ ap (λ (all : List LaneEntry). events_from w (lane_events j partition all)) longer;
      drops_are =
          a.drops_are
          ∙ ap (λ (u : StreamUse). old.drops ++ entry_drop u.stream old.partition old.place v) h.used_is
          ∙ ap (λ (n : ℕ). old.drops ++ entry_drop used.stream n old.place v) h.partition_is
          ∙ ap (λ (p : Position). old.drops ++ entry_drop used.stream partition p v) h.place_is
          ∙ ap (λ (x : Option Verdict). old.drops ++ entry_drop used.stream partition (position front) x) (sym a.verdict_is)
          ∙ ap (λ (ds : List DroppedRecord). ds ++ entry_drop used.stream partition (position front) (verdict_behind j front e)) h.drops_are
          ∙ sym (drops_behind-push j used.stream partition before since e);
    }

-- a place by its numbers
place_of : (place : Position) (segment index : ℕ) → place.segment ≡ segment → place.index ≡ index
    → place ≡ (let p : Position = record { segment = segment; index = index } in p)
place_of place segment index s i =
    ap (λ (n : ℕ). let p : Position = record { segment = n; index = place.index } in p) s
    ∙ ap (λ (n : ℕ). let p : Position = record { segment = segment; index = n } in p) i

-- a record with this stamp and this substream, which has this verdict
pub record_heard : (policy : Policy) (used : StreamUse) (partition : ℕ) (old new : Lane) (before since : List LaneEntry) (w : ℕ)
    (enqueued through : ℕ) (stamp : Option ℕ) (key values : List Value) (v : Verdict)
    → stamp ≡ stamp_of old.used.stamp values → key ≡ substream_of old.used.over values
    → w ≤ open_watermark policy used (before ++ since) → HasHeard policy used partition old before since w
    → ((es : List Entry) → StandsFor old.state es → verdict old.state.rules es (Good enqueued through stamp key) ≡ Some v)
    → ((es : List Entry) → StandsFor old.state es → StandsFor new.state (es ++ Good enqueued through stamp key ∷ []))
    → new.state.rules ≡ old.state.rules → new.used ≡ old.used → new.partition ≡ old.partition
    → IsBehindItem old.place new.place
    → new.kept ≡ old.kept ++ kept_record old.partition old.place values (Some v)
    → new.drops ≡ old.drops ++ entry_drop old.used.stream old.partition old.place (Some v)
    → HasHeard policy used partition new before (since ++ Record enqueued through values ∷ []) w
record_heard policy used partition old new before since w enqueued through stamp key values v es ek le h judged stands er eu ep behind ee ed =
    let j = judge_of policy used in
    let front = before ++ since in
    let entry : policy_entry j (Record enqueued through values) ≡ Good enqueued through stamp key =
    ap (λ (s : Option ℕ). Good enqueued through s (j.key values)) (sym (es ∙ ap (λ (u : StreamUse). stamp_of u.stamp values) h.used_is))
    ∙ ap (λ (k : List Value). Good enqueued through stamp k) (sym (ek ∙ ap (λ (u : StreamUse). substream_of u.over values) h.used_is)) in
    heard policy used partition old new before since w (Record enqueued through values) (Some v) le h (record {
      verdict_is =
          ap (λ (x : Entry). verdict j.rules (policy_entries j front) x) entry
          ∙ ap (λ (r : Rules). verdict r (policy_entries j front) (Good enqueued through stamp key)) (sym h.rules_are)
          ∙ judged (policy_entries j front) h.state_stands;
      used_is = eu;
      partition_is = ep;
      rules_are = er;
      stands = subst (λ (x : Entry). StandsFor new.state (policy_entries j front ++ x ∷ [])) (sym entry)
          (stands (policy_entries j front) h.state_stands);
      place_is = place_of new.place old.place.segment (old.place.index + 1) behind.segment_is behind.index_is;
      kept_are = ee;
      drops_are = ed;
    })

-- an item that is no record
pub broken_heard : (policy : Policy) (used : StreamUse) (partition : ℕ) (old new : Lane) (before since : List LaneEntry) (w : ℕ) (rule : Rule)
    → w ≤ open_watermark policy used (before ++ since) → HasHeard policy used partition old before since w
    → new.state ≡ old.state → new.used ≡ old.used → new.partition ≡ old.partition
    → IsBehindItem old.place new.place → new.kept ≡ old.kept
    → new.drops ≡ old.drops ++ entry_drop old.used.stream old.partition old.place (Some (Dropped rule))
    → HasHeard policy used partition new before (since ++ Broken rule ∷ []) w
broken_heard policy used partition old new before since w rule le h e eu ep behind ee ed =
    let j = judge_of policy used in
    let front = before ++ since in
    heard policy used partition old new before since w (Broken rule) (Some (Dropped rule)) le h (record {
      verdict_is = refl;
      used_is = eu;
      partition_is = ep;
      rules_are = ap (λ (s : LaneState). s.rules) e;
      stands = subst (λ (s : LaneState). StandsFor s (policy_entries j front ++ policy_entry j (Broken rule) ∷ [])) (sym e)
          (stands-bad old.state (policy_entries j front) rule h.state_stands);
      place_is = place_of new.place old.place.segment (old.place.index + 1) behind.segment_is behind.index_is;
      kept_are = ee ∙ sym (append-nil old.kept);
      drops_are = ed;
    })

-- the mark at the end of a segment
pub end_heard : (policy : Policy) (used : StreamUse) (partition : ℕ) (old new : Lane) (before since : List LaneEntry) (w through : ℕ)
    → w ≤ open_watermark policy used (before ++ since) → HasHeard policy used partition old before since w
    → ((es : List Entry) → StandsFor old.state es → StandsFor new.state (es ++ Mark through ∷ []))
    → new.state.rules ≡ old.state.rules → new.used ≡ old.used → new.partition ≡ old.partition
    → new.place.segment ≡ old.place.segment + 1 → new.place.index ≡ 0 → new.kept ≡ old.kept → new.drops ≡ old.drops
    → HasHeard policy used partition new before (since ++ End through ∷ []) w
end_heard policy used partition old new before since w through le h stands er eu ep eps epi ee ed =
    let j = judge_of policy used in
    let front = before ++ since in
    heard policy used partition old new before since w (End through) None le h (record {
      verdict_is = refl;
      used_is = eu;
      partition_is = ep;
      rules_are = er;
      stands = stands (policy_entries j front) h.state_stands;
      place_is = place_of new.place (old.place.segment + 1) 0 eps epi;
      kept_are = ee ∙ sym (append-nil old.kept);
      drops_are = ed ∙ sym (append-nil old.drops);
    })

-- entries one behind the other
pub HearsAll-push : (old between new : Lane) (es : List LaneEntry) (e : LaneEntry) → HearsAll old between es → Hears between new e → HearsAll old new (es ++ e ∷ [])
HearsAll-push old between new es e h k = λ policy used partition before since w le heard_old.
    let longer = open_watermark-more policy used (before ++ since) es in
    let le_all : w ≤ open_watermark policy used (before ++ (since ++ es)) =
    subst (λ all. w ≤ open_watermark policy used all) (append_assoc before since es) (omega (arith, le, longer)) in
    subst (λ all. HasHeard policy used partition new before all w) (append_assoc since es (e ∷ []))
    (k policy used partition before (since ++ es) w le_all (h policy used partition before since w le heard_old))

pub HearsAll-none : (lane : Lane) → HearsAll lane lane []
HearsAll-none lane = λ policy used partition before since w le heard_old.
    subst (λ all. HasHeard policy used partition lane before all w) (sym (append-nil since)) heard_old

-- the same lane, with what it has heard, by its own stream and partition
pub own : (policy : Policy) (used : StreamUse) (partition : ℕ) (lane : Lane) (before since : List LaneEntry) (w : ℕ) → HasHeard policy used partition lane before since w
    → HasHeard policy lane.used lane.partition lane before since w
own policy used partition lane before since w h =
    subst (λ u. HasHeard policy u lane.partition lane before since w) (sym h.used_is)
    (subst (λ n. HasHeard policy used n lane before since w) (sym h.partition_is) h)

pub still-open : (ended : Bool) (segments : ℕ) (place : Position) → place.segment < segments → is_closed ended segments place ≡ false
still-open ended segments place lt = and_right ended (place.segment == segments) (ne_eqb place.segment segments (λ e. absurd (omega (arith, lt, e))))

pub open-settled : (policy : Policy) (used : StreamUse) (h : LaneHeard) (w : ℕ) → h.closed ≡ false → w ≤ lane_watermark (judge_of policy used) (heard_lane h)
    → w ≤ open_watermark policy used (entries h)
open-settled policy used h w open_ le = subst (λ b. w ≤ cond b end_ticks (open_watermark policy used (entries h))) open_ le

pub fed-settled : (policy : Policy) (used : StreamUse) (front : List LaneEntry) (w : ℕ) (closed : Bool) → w ≤ end_ticks → w ≤ open_watermark policy used front
    → w ≤ cond closed end_ticks (open_watermark policy used front)
fed-settled policy used front w true before_end le = before_end
fed-settled policy used front w false before_end le = le

-- a lane that is in a segment and hears further entries
pub IsFed-heard : (old new : Lane) (more : List LaneEntry) → old.place.segment < length old.throughs → HearsAll old new more → IsSameLane old new → IsFed old more new
IsFed-heard old new more lt hears same = λ policy h w before_end stands.
    let used = old.used in
    let front = entries h in
    let is_open = stands.closed_is ∙ still-open old.ended (length old.throughs) old.place lt in
    let le = open-settled policy used h w is_open stands.settled in
    let heard_new = hears policy used old.partition h.before h.since w le stands.heard in
    let longer : front ++ more ≡ h.before ++ (h.since ++ more) = append_assoc h.before h.since more in
    let all_le : w ≤ open_watermark policy used (h.before ++ (h.since ++ more)) =
    subst (λ all. w ≤ open_watermark policy used all) longer (omega (arith, le, open_watermark-more policy used front more)) in
    let place : position (front ++ more) ≡ new.place = ap position longer ∙ sym heard_new.place_is in
    let closed = is_closed old.ended (length old.throughs) (position (front ++ more)) in
    record {
      heard = own policy used old.partition new h.before (h.since ++ more) w heard_new;
      closed_is =
          ap (is_closed old.ended (length old.throughs)) place
          ∙ ap (λ b. is_closed b (length old.throughs) new.place) (sym same.ended_is)
          ∙ ap (λ ts. is_closed new.ended (length ts) new.place) (sym same.throughs_are);
      settled =
          subst (λ u. w ≤ cond closed end_ticks (open_watermark policy u (h.before ++ (h.since ++ more)))) (sym heard_new.used_is)
          (fed-settled policy used (h.before ++ (h.since ++ more)) w closed before_end all_le);
    }

-- the next entries of a segment, those that are items alone
pub next-items : (through : ℕ) (items : List Item) (index n : ℕ) → index + n ≤ length items
    → next_entries through items index n ≡ map (item_entry through) (take n (drop index items))
next-items through items index n le =
    let f = item_entry through in
    let marked = map f items in
    let long : index ≤ length marked = omega (arith, le, length-map items f) in
    ap (take n) (drop-append-le index marked (End through ∷ []) long)
    ∙ take-append-le n (drop index marked) (End through ∷ []) (omega (arith, le, length-map items f, length-drop index marked))
    ∙ ap (take n) (drop-map f index items)
    ∙ take-map f n (drop index items)

-- and with the mark behind them
pub next-all : (through : ℕ) (items : List Item) (index n : ℕ) → index ≤ length items → index + n ≡ length items + 1
    → next_entries through items index n ≡ map (item_entry through) (drop index items) ++ End through ∷ []
next-all through items index n le is =
    let f = item_entry through in
    let marked = map f items in
    let rest = drop index marked ++ End through ∷ [] in
    ap (take n) (drop-append-le index marked (End through ∷ []) (omega (arith, le, length-map items f)))
    ∙ take_all n rest (omega (arith, le, is, length-map items f, length-drop index marked, length-append (drop index marked) (End through ∷ [])))
    ∙ ap (λ es. es ++ End through ∷ []) (drop-map f index items)

pub IsSameLane-self : (lane : Lane) → IsSameLane lane lane
IsSameLane-self lane = record { used_is = refl; partition_is = refl; throughs_are = refl; ended_is = refl }

pub IsSameLane-both : (old between new : Lane) → IsSameLane old between → IsSameLane between new → IsSameLane old new
IsSameLane-both old between new h k = record {
  used_is = k.used_is ∙ h.used_is;
  partition_is = k.partition_is ∙ h.partition_is;
  throughs_are = k.throughs_are ∙ h.throughs_are;
  ended_is = k.ended_is ∙ h.ended_is;
}
