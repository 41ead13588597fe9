-- A core that hears further entries, and one that is cut.
use Rattle.std.proofs.Common.{◌≡◌, ◌≤◌, ◌<◌, ℕ, zero, suc, Bool, false, cond, ◌&&◌, Option, Some, None, List, [], ◌∷◌, ◌++◌, map, length, refl, ap, sym, ◌∙◌, subst, append-nil, append_assoc, arith}
use Rattle.std.specs.Prelude.{nat_lt, nat_le, slice_get}
use Rattle.std.specs.List.{insert, remove}
use Rattle.query_plan.specs.declared.plan.StreamUse.{StreamUse}
use Rattle.event_value.specs.declared.policy.Policy.{Policy}
use Rattle.event_value.specs.declared.record.Event.{Event}
use Rattle.event_value.specs.declared.record.Stamped.{Stamped}
use Rattle.row_order.proofs.StretchLemmas.{rows_below-rows_from, rows_from-rows_from}
use Rattle.tick_time.specs.Moment.{end_ticks}
use Rattle.time_policy.specs.PolicyState.{StandsFor}
use Rattle.time_policy.specs.Verdicts.{watermark}
use Rattle.arrival_log.specs.Kept.{events_below, lane_events, lane_watermark, policy_entries}
use Rattle.arrival_log.specs.Log.{LaneEntry, position}
use Rattle.arrival_log.proofs.SettledLemmas.{settled}
use Rattle.query_meaning.specs.Lists.{AreNew, all_between}
use Rattle.query_meaning.specs.Pipeline.{IsAt}
use Rattle.query_meaning.specs.Streams.{judge_of, row_of, rows_of_streams, watermark_of_streams}
use Rattle.query_meaning.proofs.PlanLemmas.{Agree, Agree-none}
use Rattle.query_meaning.proofs.PipelineLemmas.{AreGiven-same, all_between-twice, done-in_order}
use Rattle.query_meaning.specs.declared.pipeline.Pipeline.{Pipeline}
use Rattle.query_meaning.specs.declared.ready.ReadyPlan.{ReadyPlan}
use Rattle.job_core.specs.Gathered.{gathered, joined}
use Rattle.job_core.specs.Heard.{LaneHeard, cut_lane, entries, events_from, heard_lane, is_closed, log_of, place_of, with_entries, with_lane}
use Rattle.job_core.specs.Lane.{HasHeard, IsFed, IsReleased, IsSameLane, LaneStands, own_watermark}
use Rattle.job_core.specs.Lanes.{AreAsMany, AreOfStreams, AreReleased, LaneKind, LaneName, LanesStand, kind_of, least, name_of, replaced}
use Rattle.job_core.specs.declared.lane.Lane.{Lane}
use Rattle.job_core.proofs.LaneLemmas.{open-settled, own, still-open}
use Rattle.job_core.proofs.StreamLemmas.{each_lane, gathered-picked, mark_of, picked, picked_of, rows-order, rows-picked, rows_of_picked, since_of, watermark-least}

pub names-many : (policy : Policy) (lanes : List Lane) (heard : List LaneHeard) (w : ℕ) → LanesStand policy lanes heard w → AreAsMany (map name_of lanes) heard
names-many policy [] [] w h = tt
names-many policy [] (k ∷ heard) w h = absurd h
names-many policy (lane ∷ lanes) [] w h = absurd h
names-many policy (lane ∷ lanes) (k ∷ heard) w h = names-many policy lanes heard w h.1

-- ---- a lane in place of another

pub Some-is : {X : Type 0} (x y : X) → Some x ≡ Some y → x ≡ y
Some-is x y e = ap (λ o. inside o x) e
  where
    inside : {X : Type 0} → Option X → X → X
    inside (Some z) d = z
    inside None d = d

pub None-Some : {X : Type 0} {x : X} → None ≡ Some x → ⊥
None-Some e = subst (λ o. none o) e tt
  where
    none : {X : Type 0} → Option X → Type 0
    none None = Unit {0}
    none (Some y) = ⊥

pub insert-remove : {X : Type 0} (xs : List X) (n : ℕ) (x y : X) → slice_get xs n ≡ Some x → insert (remove xs n) n y ≡ replaced n y xs
insert-remove [] n x y h = absurd (None-Some h)
insert-remove (z ∷ xs) zero x y h = refl
insert-remove (z ∷ xs) (suc n) x y h = ap (λ l. z ∷ l) (insert-remove xs n x y h)

pub name-same : (old new : Lane) → IsSameLane old new → name_of new ≡ name_of old
name-same old new same =
    ap (λ u. (let name : LaneName = record { used = u; partition = new.partition } in name)) same.used_is
    ∙ ap (λ n. (let name : LaneName = record { used = old.used; partition = n } in name)) same.partition_is

pub kind-same : (old new : Lane) → IsSameLane old new → kind_of new ≡ kind_of old
kind-same old new same =
    ap (λ (name : LaneName). (let kind : LaneKind = record { used = name.used; partition = name.partition; throughs = new.throughs; ended = new.ended } in kind)) (name-same old new same)
    ∙ ap (λ ts. (let kind : LaneKind = record { used = old.used; partition = old.partition; throughs = ts; ended = new.ended } in kind)) same.throughs_are
    ∙ ap (λ b. (let kind : LaneKind = record { used = old.used; partition = old.partition; throughs = old.throughs; ended = b } in kind)) same.ended_is

-- what is the same of a lane that was replaced
pub each-replaced : {X : Type 0} (f : Lane → X) (lanes : List Lane) (n : ℕ) (old new : Lane) → slice_get lanes n ≡ Some old → f new ≡ f old → map f (replaced n new lanes) ≡ map f lanes
each-replaced f [] n old new h same = refl
each-replaced f (lane ∷ lanes) zero old new h same = ap (λ x. x ∷ map f lanes) (same ∙ ap f (sym (Some-is lane old h)))
each-replaced f (lane ∷ lanes) (suc n) old new h same = ap (λ xs. f lane ∷ xs) (each-replaced f lanes n old new h same)

pub stand-replaced : (policy : Policy) (lanes : List Lane) (heard : List LaneHeard) (w n : ℕ) (old new : Lane) (more : List LaneEntry) → slice_get lanes n ≡ Some old → w ≤ end_ticks
    → IsFed old more new → LanesStand policy lanes heard w
    → LanesStand policy (replaced n new lanes) (with_lane (with_entries old.ended (length old.throughs) more) n heard) w
stand-replaced policy [] [] w n old new more h le fed stand = tt
stand-replaced policy [] (k ∷ heard) w n old new more h le fed stand = absurd stand
stand-replaced policy (lane ∷ lanes) [] w n old new more h le fed stand = absurd stand
stand-replaced policy (lane ∷ lanes) (k ∷ heard) w zero old new more h le fed stand =
    (fed policy k w le (subst (λ l. LaneStands policy l k w) (Some-is lane old h) stand.0), stand.1)
stand-replaced policy (lane ∷ lanes) (k ∷ heard) w (suc n) old new more h le fed stand =
    (stand.0, stand-replaced policy lanes heard w n old new more h le fed stand.1)

-- further entries of an open lane change nothing below w
pub picked-fed : (policy : Policy) (names : List LaneName) (heard : List LaneHeard) (w n : ℕ) (change : LaneHeard → LaneHeard) (more : List LaneEntry)
    → ((h : LaneHeard) → entries (change h) ≡ entries h ++ more) → ((h : LaneHeard) → slice_get heard n ≡ Some h → h.closed ≡ false)
    → AreAsMany names heard → w ≤ least (each_lane (mark_of policy) names heard)
    → picked (λ t. nat_lt t w) policy names (with_lane change n heard) ≡ picked (λ t. nat_lt t w) policy names heard
picked-fed policy [] [] w n change more grows is_open many le = refl
picked-fed policy [] (k ∷ heard) w n change more grows is_open many le = absurd many
picked-fed policy (name ∷ names) [] w n change more grows is_open many le = absurd many
picked-fed policy (name ∷ names) (k ∷ heard) w zero change more grows is_open many le =
    let j = judge_of policy name.used in
    let first : w ≤ mark_of policy name k = omega (arith, le) in
    let open_le = open-settled policy name.used k w (is_open k refl) first in
    ap (λ es. es ∷ picked (λ t. nat_lt t w) policy names heard)
    (ap (λ front. events_below w (lane_events j name.partition front)) (grows k)
    ∙ settled j name.partition w (entries k) more open_le)
picked-fed policy (name ∷ names) (k ∷ heard) w (suc n) change more grows is_open many le =
    ap (λ es. picked_of (λ t. nat_lt t w) policy name k ∷ es) (picked-fed policy names heard w n change more grows is_open many (omega (arith, le)))

-- a lane that is in a segment isn't closed
pub open-at : (policy : Policy) (lanes : List Lane) (heard : List LaneHeard) (w n : ℕ) (old : Lane) → slice_get lanes n ≡ Some old → old.place.segment < length old.throughs
    → LanesStand policy lanes heard w → (h : LaneHeard) → slice_get heard n ≡ Some h → h.closed ≡ false
open-at policy [] [] w n old at lt stand h is = absurd (None-Some at)
open-at policy [] (k ∷ heard) w n old at lt stand h is = absurd stand
open-at policy (lane ∷ lanes) [] w n old at lt stand h is = absurd stand
open-at policy (lane ∷ lanes) (k ∷ heard) w zero old at lt stand h is =
    ap (λ x. x.closed) (sym (Some-is k h is))
    ∙ stand.0.closed_is
    ∙ still-open lane.ended (length lane.throughs) lane.place (subst (λ l. l.place.segment < length l.throughs) (sym (Some-is lane old at)) lt)
open-at policy (lane ∷ lanes) (k ∷ heard) w (suc n) old at lt stand h is = open-at policy lanes heard w n old at lt stand.1 h is

pub many-with_lane : (names : List LaneName) (heard : List LaneHeard) (change : LaneHeard → LaneHeard) (n : ℕ) → AreAsMany names heard → AreAsMany names (with_lane change n heard)
many-with_lane [] [] change n h = tt
many-with_lane [] (k ∷ heard) change n h = absurd h
many-with_lane (name ∷ names) [] change n h = absurd h
many-with_lane (name ∷ names) (k ∷ heard) change zero h = h
many-with_lane (name ∷ names) (k ∷ heard) change (suc n) h = many-with_lane names heard change n h

-- streams that have the same below w
pub rows-agree : (policy : Policy) (uses : List StreamUse) (counts : List ℕ) (names : List LaneName) (heard others : List LaneHeard) (w : ℕ)
    → AreOfStreams uses counts names → AreAsMany names heard → AreAsMany names others
    → picked (λ t. nat_lt t w) policy names heard ≡ picked (λ t. nat_lt t w) policy names others
    → Agree w (rows_of_streams policy uses (log_of counts heard)) (rows_of_streams policy uses (log_of counts others))
rows-agree policy uses counts names heard others w of many others_many same = record {
  first_order = rows-order policy uses (log_of counts heard);
  other_order = rows-order policy uses (log_of counts others);
  same =
      rows-picked (λ t. nat_lt t w) policy uses counts names heard of many
      ∙ ap (rows_of_picked counts) same
      ∙ sym (rows-picked (λ t. nat_lt t w) policy uses counts names others of others_many);
}

pub IsAt-agree : (pipeline : Pipeline) (plan : ReadyPlan) (streams others : List (List Stamped)) (w : ℕ) → Agree w streams others → IsAt pipeline plan streams w → IsAt pipeline plan others w
IsAt-agree pipeline plan streams others w agree at = record {
  upto_is = at.upto_is;
  in_order = agree.other_order;
  are_given = AreGiven-same w streams others [] [] pipeline.ops plan.steps agree (Agree-none w) at.are_given;
}

-- ---- the watermarks

pub own-mark : (policy : Policy) (lane : Lane) (h : LaneHeard) (w : ℕ) → LaneStands policy lane h w → own_watermark lane ≡ mark_of policy (name_of lane) h
own-mark policy lane h w stand =
    ap (λ b. cond b end_ticks lane.state.watermark) (sym stand.closed_is)
    ∙ ap (λ n. cond h.closed end_ticks n) (stand.heard.state_stands.watermark_is ∙ ap (λ r. watermark r (policy_entries (judge_of policy lane.used) (entries h))) stand.heard.rules_are)

pub own-marks : (policy : Policy) (lanes : List Lane) (heard : List LaneHeard) (w : ℕ) → LanesStand policy lanes heard w
    → map own_watermark lanes ≡ each_lane (mark_of policy) (map name_of lanes) heard
own-marks policy [] [] w stand = refl
own-marks policy [] (k ∷ heard) w stand = absurd stand
own-marks policy (lane ∷ lanes) [] w stand = absurd stand
own-marks policy (lane ∷ lanes) (k ∷ heard) w stand =
    ap (λ n. n ∷ map own_watermark lanes) (own-mark policy lane k w stand.0)
    ∙ ap (λ ns. mark_of policy (name_of lane) k ∷ ns) (own-marks policy lanes heard w stand.1)

pub settled-least : (policy : Policy) (lanes : List Lane) (heard : List LaneHeard) (w : ℕ) → w ≤ end_ticks → LanesStand policy lanes heard w
    → w ≤ least (each_lane (mark_of policy) (map name_of lanes) heard)
settled-least policy [] [] w le stand = le
settled-least policy [] (k ∷ heard) w le stand = absurd stand
settled-least policy (lane ∷ lanes) [] w le stand = absurd stand
settled-least policy (lane ∷ lanes) (k ∷ heard) w le stand = omega (arith, stand.0.settled, settled-least policy lanes heard w le stand.1)

-- ---- a cut

lane-released : (policy : Policy) (old new : Lane) (h : LaneHeard) (w u : ℕ) (rows : List Stamped) → w ≤ u → u ≤ mark_of policy (name_of old) h
    → LaneStands policy old h w → IsReleased u old new rows → LaneStands policy new (cut_lane h) u
lane-released policy old new h w u rows le within stand released =
    let used = old.used in
    let j = judge_of policy used in
    let front = entries h in
    let whole : front ≡ front ++ [] = sym (append-nil front) in
    let old_heard = stand.heard in
    let now : HasHeard policy used old.partition new front [] u = record {
      used_is = released.same.used_is;
      partition_is = released.same.partition_is;
      rules_are = ap (λ s. s.rules) released.state_is ∙ old_heard.rules_are;
      state_stands = subst (λ es. StandsFor new.state (policy_entries j es)) whole (subst (λ s. StandsFor s (policy_entries j front)) (sym released.state_is) old_heard.state_stands);
      place_is = released.place_is ∙ old_heard.place_is ∙ ap position whole;
      kept_are =
          released.kept_are
          ∙ ap (events_from u) old_heard.kept_are
          ∙ rows_from-rows_from (λ (e : Event). e.time) w u (lane_events j old.partition front) le
          ∙ ap (λ es. events_from u (lane_events j old.partition es)) whole;
      drops_are = released.drops_are;
    } in
    record {
      heard = own policy used old.partition new front [] u now;
      closed_is =
          stand.closed_is
          ∙ ap (is_closed old.ended (length old.throughs)) (sym released.place_is)
          ∙ ap (λ b. is_closed b (length old.throughs) new.place) (sym released.same.ended_is)
          ∙ ap (λ ts. is_closed new.ended (length ts) new.place) (sym released.same.throughs_are);
      settled =
          subst (λ v. u ≤ lane_watermark (judge_of policy v) (heard_lane (cut_lane h))) (sym released.same.used_is)
          (subst (λ es. u ≤ cond h.closed end_ticks (watermark j.rules (policy_entries j es))) whole within);
    }

pub stand-released : (policy : Policy) (lanes news : List Lane) (heard : List LaneHeard) (w u : ℕ) (rows : List (List Stamped)) → w ≤ u
    → u ≤ least (each_lane (mark_of policy) (map name_of lanes) heard) → LanesStand policy lanes heard w → AreReleased u lanes news rows
    → LanesStand policy news (map cut_lane heard) u
stand-released policy [] news [] w u rows le within stand released = subst (λ l. LanesStand policy l [] u) (sym released.0) tt
stand-released policy [] news (k ∷ heard) w u rows le within stand released = absurd stand
stand-released policy (lane ∷ lanes) news [] w u rows le within stand released = absurd stand
stand-released policy (lane ∷ lanes) news (k ∷ heard) w u rows le within stand released =
    subst (λ l. LanesStand policy l (map cut_lane (k ∷ heard)) u) (sym released.4) (
      lane-released policy lane released.0 k w u released.2 le (omega (arith, within)) stand.0 released.6,
      stand-released policy lanes released.1 heard w u released.3 le (omega (arith, within)) stand.1 released.7,
    )

-- what is the same of lanes from which rows were taken out
pub each-released : {X : Type 0} (f : Lane → X) → ((old new : Lane) → IsSameLane old new → f new ≡ f old)
    → (u : ℕ) (lanes news : List Lane) (rows : List (List Stamped)) → AreReleased u lanes news rows → map f news ≡ map f lanes
each-released f same u [] news rows released = ap (map f) released.0
each-released f same u (lane ∷ lanes) news rows released =
    ap (map f) released.4
    ∙ ap (λ x. x ∷ map f released.1) (same lane released.0 released.6.same)
    ∙ ap (λ xs. f lane ∷ xs) (each-released f same u lanes released.1 released.3 released.7)

-- between two moments
abbrev pub is_between : ℕ → ℕ → ℕ → Bool
is_between w u t = nat_le w t && nat_lt t u

pub rows-released : (policy : Policy) (lanes news : List Lane) (heard : List LaneHeard) (w u : ℕ) (rows : List (List Stamped)) → LanesStand policy lanes heard w → AreReleased u lanes news rows
    → rows ≡ map (map row_of) (picked (is_between w u) policy (map name_of lanes) heard)
rows-released policy [] news [] w u rows stand released = released.1
rows-released policy [] news (k ∷ heard) w u rows stand released = absurd stand
rows-released policy (lane ∷ lanes) news [] w u rows stand released = absurd stand
rows-released policy (lane ∷ lanes) news (k ∷ heard) w u rows stand released =
    let own_rows : released.2 ≡ map row_of (picked_of (is_between w u) policy (name_of lane) k) =
    released.6.rows_are
    ∙ ap (λ es. map row_of (events_below u es)) stand.0.heard.kept_are
    ∙ ap (map row_of) (rows_below-rows_from (λ (e : Event). e.time) w u (lane_events (judge_of policy lane.used) lane.partition (entries k))) in
    released.5
    ∙ ap (λ r. r ∷ released.3) own_rows
    ∙ ap (λ rs. map row_of (picked_of (is_between w u) policy (name_of lane) k) ∷ rs) (rows-released policy lanes released.1 heard w u released.3 stand.1 released.7)

-- what was taken out of the lanes is what the streams have from w to below u
pub rows-new : (policy : Policy) (uses : List StreamUse) (counts : List ℕ) (lanes news : List Lane) (heard : List LaneHeard) (w u : ℕ) (rows given : List (List Stamped))
    → AreOfStreams uses counts (map name_of lanes) → LanesStand policy lanes heard w → AreReleased u lanes news rows → given ≡ gathered counts rows
    → AreNew w u (rows_of_streams policy uses (log_of counts heard)) given
rows-new policy uses counts lanes news heard w u rows given of stand released is =
    let streams = rows_of_streams policy uses (log_of counts heard) in
    let same : given ≡ all_between w u streams =
    is
    ∙ ap (gathered counts) (rows-released policy lanes news heard w u rows stand released)
    ∙ gathered-picked counts (picked (is_between w u) policy (map name_of lanes) heard)
    ∙ sym (rows-picked (is_between w u) policy uses counts (map name_of lanes) heard of (names-many policy lanes heard w stand)) in
    record {
      in_order = done-in_order w u streams given (rows-order policy uses (log_of counts heard)) same;
      rows_are = ap (all_between w u) same ∙ all_between-twice w u streams;
    }

pub drops-stand : (policy : Policy) (lanes : List Lane) (heard : List LaneHeard) (w : ℕ) → LanesStand policy lanes heard w
    → joined (map (λ (lane : Lane). lane.drops) lanes) ≡ joined (each_lane (since_of policy) (map name_of lanes) heard)
drops-stand policy [] [] w stand = refl
drops-stand policy [] (k ∷ heard) w stand = absurd stand
drops-stand policy (lane ∷ lanes) [] w stand = absurd stand
drops-stand policy (lane ∷ lanes) (k ∷ heard) w stand =
    ap (λ ds. ds ++ joined (map (λ (l : Lane). l.drops) lanes)) stand.0.heard.drops_are
    ∙ ap (λ ds. since_of policy (name_of lane) k ++ ds) (drops-stand policy lanes heard w stand.1)

pub places-stand : (policy : Policy) (lanes : List Lane) (heard : List LaneHeard) (w : ℕ) → LanesStand policy lanes heard w → map (λ (lane : Lane). lane.place) lanes ≡ map place_of heard
places-stand policy [] [] w stand = refl
places-stand policy [] (k ∷ heard) w stand = absurd stand
places-stand policy (lane ∷ lanes) [] w stand = absurd stand
places-stand policy (lane ∷ lanes) (k ∷ heard) w stand =
    ap (λ p. p ∷ map (λ (l : Lane). l.place) lanes) stand.0.heard.place_is
    ∙ ap (λ ps. place_of k ∷ ps) (places-stand policy lanes heard w stand.1)

-- one lane more from which rows were taken out
pub AreReleased-push : (u : ℕ) (olds news : List Lane) (rows : List (List Stamped)) (old new : Lane) (more : List Stamped) → AreReleased u olds news rows → IsReleased u old new more
    → AreReleased u (olds ++ old ∷ []) (news ++ new ∷ []) (rows ++ more ∷ [])
AreReleased-push u [] news rows old new more h released =
    (new, [], more, [], ap (λ l. l ++ new ∷ []) h.0, ap (λ l. l ++ more ∷ []) h.1, released, (refl, refl))
AreReleased-push u (lane ∷ olds) news rows old new more h released = (
  h.0,
  h.1 ++ new ∷ [],
  h.2,
  h.3 ++ more ∷ [],
  ap (λ l. l ++ new ∷ []) h.4,
  ap (λ l. l ++ more ∷ []) h.5,
  h.6,
  AreReleased-push u olds h.1 h.3 old new more h.7 released,
)

pub watermark-own : (policy : Policy) (uses : List StreamUse) (counts : List ℕ) (lanes : List Lane) (heard : List LaneHeard) (w : ℕ)
    → AreOfStreams uses counts (map name_of lanes) → LanesStand policy lanes heard w
    → least (map own_watermark lanes) ≡ watermark_of_streams policy uses (log_of counts heard)
watermark-own policy uses counts lanes heard w of stand =
    ap least (own-marks policy lanes heard w stand)
    ∙ sym (watermark-least policy uses counts (map name_of lanes) heard of (names-many policy lanes heard w stand))

-- a lane that is fed changes nothing below w
pub fed-agree : (policy : Policy) (uses : List StreamUse) (counts : List ℕ) (lanes : List Lane) (heard : List LaneHeard) (w n : ℕ) (old : Lane) (more : List LaneEntry)
    → slice_get lanes n ≡ Some old → old.place.segment < length old.throughs → w ≤ end_ticks
    → AreOfStreams uses counts (map name_of lanes) → LanesStand policy lanes heard w
    → Agree w (rows_of_streams policy uses (log_of counts heard))
    (rows_of_streams policy uses (log_of counts (with_lane (with_entries old.ended (length old.throughs) more) n heard)))
fed-agree policy uses counts lanes heard w n old more at lt le of stand =
    let names = map name_of lanes in
    let change = with_entries old.ended (length old.throughs) more in
    let many = names-many policy lanes heard w stand in
    rows-agree policy uses counts names heard (with_lane change n heard) w of many (many-with_lane names heard change n many)
    (sym (picked-fed policy names heard w n change more (λ h. sym (append_assoc h.before h.since more))
    (open-at policy lanes heard w n old at lt stand) many (settled-least policy lanes heard w le stand)))

-- the lane at a place stands for what was heard there
pub stand-at : (policy : Policy) (lanes : List Lane) (heard : List LaneHeard) (w n : ℕ) (lane : Lane) (h : LaneHeard) → LanesStand policy lanes heard w
    → slice_get lanes n ≡ Some lane → slice_get heard n ≡ Some h → LaneStands policy lane h w
stand-at policy [] heard w n lane h stand at is = absurd (None-Some at)
stand-at policy (l ∷ lanes) [] w n lane h stand at is = absurd stand
stand-at policy (l ∷ lanes) (k ∷ heard) w zero lane h stand at is =
    subst (λ x. LaneStands policy x h w) (Some-is l lane at) (subst (λ x. LaneStands policy l x w) (Some-is k h is) stand.0)
stand-at policy (l ∷ lanes) (k ∷ heard) w (suc n) lane h stand at is = stand-at policy lanes heard w n lane h stand.1 at is
