-- A core that is fed the log of its streams.
use Rattle.std.proofs.Common.{◌≡◌, List, map, Option, Some, None, refl, ap, sym, subst, ◌∙◌}
use Rattle.std.specs.List.{All, flat_map}
use Rattle.std.specs.Option.{IfSome}
use Rattle.query_plan.specs.declared.plan.Plan.{Plan}
use Rattle.event_value.specs.declared.policy.Policy.{Policy}
use Rattle.input_types.specs.declared.inputs.Inputs.{Inputs}
use Rattle.job_core.specs.Core.{CoreStands, with_lanes}
use Rattle.job_core.specs.Fresh.{fresh_heard, fresh_heard_of, lane_kinds}
use Rattle.job_core.specs.Heard.{LaneHeard}
use Rattle.job_core.specs.Lanes.{LanesStand, kind_of}
use Rattle.job_core.specs.declared.job.Core.{Core}
use Rattle.job_core.specs.declared.job.Rest.{Rest}
use Rattle.job_core.specs.declared.lane.Lane.{Lane}
use Rattle.job_core.proofs.ApartLemmas.{stands-apart}
use Rattle.outside.specs.KnownFiles.{KnownFiles}
use Rattle.query_meaning.specs.Ready.{ready_plan}
use Rattle.query_meaning.specs.declared.ready.ReadyPlan.{ReadyPlan}
use Rattle.stream_joins.specs.Snapshots.{Snapshots}
use Rattle.log_reading.specs.Core.{FeedsCore, IsFreshCore}
use Rattle.log_reading.specs.Feeding.{FeedsLanes}
use Rattle.log_reading.specs.Log.{log_files}
use Rattle.log_reading.specs.Places.{IsFresh, heard_at, heard_in, lane_files, places}
use Rattle.log_reading.proofs.PlaceLemmas.{All-fresh, AreFreshAt, are-fresh_at, fresh_at, fresh-places, hear-further, kinds-fed, lane_files-log, stand-fed}

pub IsFreshCore-made : (inputs : Inputs) (plan : Plan) (versions : List Snapshots) (core : Core) → core.plan ≡ ready_plan plan inputs versions
    → CoreStands core (fresh_heard plan inputs) 0 → core.policy ≡ inputs.policy → map kind_of core.lanes ≡ lane_kinds inputs plan.streams → IsFreshCore inputs core
IsFreshCore-made inputs plan versions core plan_is stands policy_is lanes = record {
  stands = subst (λ (p : ReadyPlan). CoreStands core (fresh_heard_of inputs p.streams) 0) (sym plan_is) stands;
  policy_is = policy_is;
  lanes_are = lanes ∙ ap (λ (p : ReadyPlan). lane_kinds inputs p.streams) (sym plan_is);
}

fresh-lanes : (inputs : Inputs) (rest : Rest) (lanes : List Lane) → IsFreshCore inputs (with_lanes rest lanes) → AreFreshAt inputs lanes (places inputs rest.plan.streams)
fresh-lanes inputs rest lanes h =
    are-fresh_at inputs rest.plan.streams lanes h.lanes_are
    (subst (λ (policy : Policy). LanesStand policy lanes (fresh_heard_of inputs rest.plan.streams) 0) h.policy_is h.stands.lanes_stand)

pub All-fresh_core : (inputs : Inputs) (core : Core) (rest : Rest) (lanes : List Lane) → core ≡ with_lanes rest lanes → IsFreshCore inputs core → All (IsFresh inputs) lanes
All-fresh_core inputs core rest lanes is h = All-fresh inputs lanes _ (fresh-lanes inputs rest lanes (subst (IsFreshCore inputs) is h))

pub files-core : (inputs : Inputs) (core : Core) (rest : Rest) (lanes : List Lane) → core ≡ with_lanes rest lanes → IsFreshCore inputs core
    → flat_map (lane_files inputs) lanes ≡ log_files inputs.streams core.plan.streams
files-core inputs core rest lanes is h =
    lane_files-log inputs rest.plan.streams lanes (fresh-lanes inputs rest lanes (subst (IsFreshCore inputs) is h))
    ∙ ap (λ (k : Core). log_files inputs.streams k.plan.streams) (sym is)

fed-stands : (inputs : Inputs) (rest : Rest) (lanes news : List Lane) (known : KnownFiles) → IsFreshCore inputs (with_lanes rest lanes) → FeedsLanes (Some known) inputs lanes news
    → CoreStands (with_lanes rest news) (heard_in known inputs rest.plan.streams) 0
fed-stands inputs rest lanes news known h fed =
    let at = places inputs rest.plan.streams in
    let before : CoreStands (with_lanes rest lanes) (map fresh_at at) 0 =
    subst (λ (heard : List LaneHeard). CoreStands (with_lanes rest lanes) heard 0) (fresh-places inputs rest.plan.streams) h.stands in
    let stand : LanesStand rest.policy news (map (heard_at known) at) 0 =
    subst (λ (policy : Policy). LanesStand policy news (map (heard_at known) at) 0) (sym h.policy_is)
    (stand-fed known inputs lanes news at (fresh-lanes inputs rest lanes h) fed) in
    stands-apart.put_back rest lanes news (map fresh_at at) (map (heard_at known) at) 0 before (kinds-fed (Some known) inputs lanes news fed) stand (hear-further known at)

fed-known : (files : Option KnownFiles) (inputs : Inputs) (rest : Rest) (lanes news : List Lane) → IsFreshCore inputs (with_lanes rest lanes) → FeedsLanes files inputs lanes news
    → IfSome files (λ known. CoreStands (with_lanes rest news) (heard_in known inputs rest.plan.streams) 0)
fed-known None inputs rest lanes news h fed = tt
fed-known (Some known) inputs rest lanes news h fed = fed-stands inputs rest lanes news known h fed

fed-rest : (files : Option KnownFiles) (inputs : Inputs) (rest : Rest) (lanes news : List Lane) → IsFreshCore inputs (with_lanes rest lanes) → FeedsLanes files inputs lanes news
    → FeedsCore files inputs (with_lanes rest lanes) (with_lanes rest news)
fed-rest files inputs rest lanes news h fed = record {
  same = record { plan_is = refl; policy_is = refl; start_is = refl; counts_are = refl; lanes_are = kinds-fed files inputs lanes news fed };
  stands = fed-known files inputs rest lanes news h fed;
}

pub FeedsCore-fed : (files : Option KnownFiles) (inputs : Inputs) (old new : Core) (rest : Rest) (lanes news : List Lane) → old ≡ with_lanes rest lanes → new ≡ with_lanes rest news
    → IsFreshCore inputs old → FeedsLanes files inputs lanes news → FeedsCore files inputs old new
FeedsCore-fed files inputs old new rest lanes news old_is new_is h fed =
    subst (λ (core : Core). FeedsCore files inputs core new) (sym old_is)
    (subst (FeedsCore files inputs (with_lanes rest lanes)) (sym new_is)
    (fed-rest files inputs rest lanes news (subst (IsFreshCore inputs) old_is h) fed))
