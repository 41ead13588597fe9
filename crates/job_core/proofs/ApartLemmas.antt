-- Lanes that are taken out of a core, hear further entries, and are put back.
use Rattle.std.proofs.Common.{◌≡◌, ◌≤◌, ℕ, Bool, true, false, List, [], ◌∷◌, ◌++◌, map, refl, ap, sym, ◌∙◌, subst, append-nil, arith}
use Rattle.std.specs.Prelude.{nat_lt}
use Rattle.event_value.specs.declared.policy.Policy.{Policy}
use Rattle.arrival_log.specs.Kept.{events_below, lane_events}
use Rattle.arrival_log.proofs.SettledLemmas.{settled}
use Rattle.query_meaning.specs.Streams.{judge_of}
use Rattle.job_core.specs.Apart.{HearFurther, HearsFurther, StandsApart}
use Rattle.job_core.specs.Core.{CoreStands, with_lanes}
use Rattle.job_core.specs.Heard.{LaneHeard, entries}
use Rattle.job_core.specs.Lanes.{AreAsMany, AreOfStreams, LaneKind, LaneName, LanesStand, kind_of, least, name_of}
use Rattle.job_core.specs.declared.job.Rest.{Rest}
use Rattle.job_core.specs.declared.lane.Lane.{Lane}
use Rattle.job_core.proofs.CoreLemmas.{IsAt-agree, names-many, rows-agree, settled-least}
use Rattle.job_core.proofs.LaneLemmas.{open-settled}
use Rattle.job_core.proofs.StreamLemmas.{each_lane, mark_of, picked, picked_of}

-- the name of a lane of this kind
kind_name : LaneKind → LaneName
kind_name kind = record { used = kind.used; partition = kind.partition }

names-of_kinds : (lanes : List Lane) → map name_of lanes ≡ map kind_name (map kind_of lanes)
unfolding kind_name
names-of_kinds [] = refl
names-of_kinds (lane ∷ lanes) = ap (λ names. name_of lane ∷ names) (names-of_kinds lanes)

pub names-if_kinds : (lanes news : List Lane) → map kind_of news ≡ map kind_of lanes → map name_of news ≡ map name_of lanes
names-if_kinds lanes news same = names-of_kinds news ∙ ap (map kind_name) same ∙ sym (names-of_kinds lanes)

-- what a lane hears further changes nothing of it below w
lane-further : (policy : Policy) (name : LaneName) (old new : LaneHeard) (w : ℕ) (closed : Bool) → old.closed ≡ closed → w ≤ mark_of policy name old → HearsFurther old new
    → picked_of (λ t. nat_lt t w) policy name new ≡ picked_of (λ t. nat_lt t w) policy name old
lane-further policy name old new w true is le h =
    let same : entries new ≡ entries old = h.entries_are ∙ ap (λ more. entries old ++ more) (h.none_if_closed is) ∙ append-nil (entries old) in
    ap (λ front. events_below w (lane_events (judge_of policy name.used) name.partition front)) same
lane-further policy name old new w false is le h =
    let j = judge_of policy name.used in
    ap (λ front. events_below w (lane_events j name.partition front)) h.entries_are
    ∙ settled j name.partition w (entries old) h.more (open-settled policy name.used old w is le)

picked-further : (policy : Policy) (names : List LaneName) (heard others : List LaneHeard) (w : ℕ)
    → AreAsMany names heard → w ≤ least (each_lane (mark_of policy) names heard) → HearFurther heard others
    → picked (λ t. nat_lt t w) policy names others ≡ picked (λ t. nat_lt t w) policy names heard
picked-further policy [] [] [] w many le h = refl
picked-further policy [] [] (new ∷ others) w many le h = absurd h
picked-further policy [] (old ∷ heard) others w many le h = absurd many
picked-further policy (name ∷ names) [] others w many le h = absurd many
picked-further policy (name ∷ names) (old ∷ heard) [] w many le h = absurd h
picked-further policy (name ∷ names) (old ∷ heard) (new ∷ others) w many le h =
    ap (λ es. es ∷ picked (λ t. nat_lt t w) policy names others) (lane-further policy name old new w old.closed refl (omega (arith, le)) h.0)
    ∙ ap (λ lists. picked_of (λ t. nat_lt t w) policy name old ∷ lists) (picked-further policy names heard others w many (omega (arith, le)) h.1)

many-further : (names : List LaneName) (heard others : List LaneHeard) → AreAsMany names heard → HearFurther heard others → AreAsMany names others
many-further [] [] [] many h = tt
many-further [] [] (new ∷ others) many h = absurd h
many-further [] (old ∷ heard) others many h = absurd many
many-further (name ∷ names) [] others many h = absurd many
many-further (name ∷ names) (old ∷ heard) [] many h = absurd h
many-further (name ∷ names) (old ∷ heard) (new ∷ others) many h = many-further names heard others many h.1

put-back : (rest : Rest) (lanes news : List Lane) (heard others : List LaneHeard) (w : ℕ)
    → CoreStands (with_lanes rest lanes) heard w → map kind_of news ≡ map kind_of lanes
    → LanesStand rest.policy news others w → HearFurther heard others → CoreStands (with_lanes rest news) others w
put-back rest lanes news heard others w stands kinds stand further =
    let policy = rest.policy in
    let names = map name_of lanes in
    let many = names-many policy lanes heard w stands.lanes_stand in
    let same = picked-further policy names heard others w many (settled-least policy lanes heard w stands.before_end stands.lanes_stand) further in
    record {
      are_of_streams = subst (AreOfStreams rest.plan.streams rest.counts) (sym (names-if_kinds lanes news kinds)) stands.are_of_streams;
      lanes_stand = stand;
      pipeline_at = IsAt-agree rest.pipeline rest.plan _ _ w
          (rows-agree policy rest.plan.streams rest.counts names heard others w stands.are_of_streams many (many-further names heard others many further) (sym same))
          stands.pipeline_at;
      before_end = stands.before_end;
    }

pub stands-apart : StandsApart
stands-apart = record { put_back = put-back }
