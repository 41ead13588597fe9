use Rattle.std.proofs.Common.{◌∙◌, ℕ, List, [], ◌∷◌, ◌++◌, length, subst, sym, map-id, rules, arith}
use Rattle.std.specs.List.{flat_map}
use Rattle.std.proofs.lemmas.Iterator.Adapters.{YieldsList-from_vec}
use Rattle.std.proofs.lemmas.Iterator.Consumers.{YieldsList-end, YieldsList-so_far, YieldsList-turn}
use Rattle.std.proofs.lemmas.List.{flat_map_more}
use Rattle.std.proofs.lemmas.Result.{err_from_is_err_and}
use Rattle.job_core.specs.declared.lane.Lane.{Lane}
use Rattle.log_reading.specs.Asking.{Asks}
use Rattle.log_reading.specs.Feeding.{FeedsLanes}
use Rattle.log_reading.specs.Places.{IsFresh, lane_files}
use Rattle.log_reading.proofs.AskingLemmas.{Asks-append, Asks-none, AsksOnErr-among, AsksPrefixOf-all, AsksPrefixOf-among}
use Rattle.log_reading.proofs.PlaceLemmas.{FeedsLane-before, FeedsLanes-push, files-around}
use Rattle.log_reading.proofs.lanes.feed_lanes.Goals as goal

pub loop-lane-init : goal.loop-lane-init
loop-lane-init g c = record {
  fed = subst (λ news. FeedsLanes (g.F.Files.known c.args.files.now) c.args.inputs.now [] news) (sym c.empty-news.ensures) tt;
  asked = Asks-none _;
  never_falls = omega arith;
}

pub feed_lane-requires : goal.feed_lane-requires
feed_lane-requires g c =
    let road = YieldsList-from_vec {s = c.into_iter-lane-iterator.result} c.args.lanes (search rules) (search rules) in
    let turn = YieldsList-turn road c.loop-lane.yielded c.loop-lane.lane-iterator c.loop-lane.yielded_by c.next.result c.next.new.self c.in-Some.lane c.in-Some.is c.next.ensures.steps in
    subst (IsFresh c.args.inputs.now) (sym turn.1) (c.requires (length c.loop-lane.yielded) c.in-Some.lane turn.0)

pub returns-in_err-new-clause-asked : goal.returns-in_err-new-clause-asked
returns-in_err-new-clause-asked g c =
    let road = YieldsList-from_vec {s = c.into_iter-lane-iterator.result} c.args.lanes (search rules) (search rules) in
    let turn = YieldsList-turn road c.loop-lane.yielded c.loop-lane.lane-iterator c.loop-lane.yielded_by c.next.result c.next.new.self c.in-Some.lane c.in-Some.is c.next.ensures.steps in
    let so_far = YieldsList-so_far road c.loop-lane.yielded c.loop-lane.lane-iterator c.loop-lane.yielded_by in
    let p = err_from_is_err_and c.from_residual.result c.from_residual.ensures.1 in
    rw (p.1, p.2)
    (AsksOnErr-among _ _ _ _ _ _ _ _
    (files-around (lane_files c.args.inputs.now) c.args.lanes c.loop-lane.yielded c.in-Some.lane (sym (map-id c.loop-lane.yielded) ∙ so_far) turn.0 turn.1)
    c.loop-lane.invariant.asked c.in_err-new.ensures.asked)

pub returns-in_err-push-clause-asked : goal.returns-in_err-push-clause-asked
returns-in_err-push-clause-asked g c =
    let road = YieldsList-from_vec {s = c.into_iter-lane-iterator.result} c.args.lanes (search rules) (search rules) in
    let turn = YieldsList-turn road c.loop-lane.yielded c.loop-lane.lane-iterator c.loop-lane.yielded_by c.next.result c.next.new.self c.in-Some.lane c.in-Some.is c.next.ensures.steps in
    let so_far = YieldsList-so_far road c.loop-lane.yielded c.loop-lane.lane-iterator c.loop-lane.yielded_by in
    let p = err_from_is_err_and c.from_residual-in_err-push.result c.from_residual-in_err-push.ensures.1 in
    rw (p.1, p.2)
    (AsksPrefixOf-among _ _ _ _ _ _ _
    (files-around (lane_files c.args.inputs.now) c.args.lanes c.loop-lane.yielded c.in-Some.lane (sym (map-id c.loop-lane.yielded) ∙ so_far) turn.0 turn.1)
    c.loop-lane.invariant.asked (AsksPrefixOf-all _ _ _ c.in_ok-new.ensures.asked))

pub loop-lane-preserved : goal.loop-lane-preserved
loop-lane-preserved g c =
    let files = lane_files c.args.inputs.now in
    record {
      fed =
          subst (λ news. FeedsLanes (g.F.Files.known c.args.files.now) c.args.inputs.now (c.loop-lane.yielded ++ c.in-Some.lane ∷ []) news) (sym c.in_ok-push.ensures.ok)
          (FeedsLanes-push _ _ _ _ _ _ c.loop-lane.invariant.fed
          (FeedsLane-before (flat_map files c.loop-lane.yielded) _ _ c.args.inputs.now c.in-Some.lane c.in_ok-new.new c.loop-lane.invariant.asked c.in_ok-new.ensures.fed));
      asked =
          subst (λ (names : List (List ℕ)). Asks names (g.F.Files.known c.args.files.now) (g.F.Files.known c.feed_lane.new.files)) (flat_map_more files [] c.loop-lane.yielded c.in-Some.lane)
          (Asks-append _ _ _ _ _ c.loop-lane.invariant.asked c.in_ok-new.ensures.asked);
      never_falls = omega (arith, c.in_ok-new.ensures.never_falls);
    }

pub returns-clause-fed : goal.returns-clause-fed
returns-clause-fed g c =
    let road = YieldsList-from_vec {s = c.into_iter-lane-iterator.result} c.args.lanes (search rules) (search rules) in
    let end = YieldsList-end road c.loop-lane.yielded c.loop-lane.lane-iterator c.loop-lane.yielded_by c.next.result c.next.new.self c.in-None.is c.next.ensures.steps in
    subst (λ lanes. FeedsLanes (g.F.Files.known c.args.files.now) c.args.inputs.now lanes c.loop-lane.news) (sym (map-id c.loop-lane.yielded) ∙ end.0) c.loop-lane.invariant.fed

pub returns-clause-asked : goal.returns-clause-asked
returns-clause-asked g c =
    let road = YieldsList-from_vec {s = c.into_iter-lane-iterator.result} c.args.lanes (search rules) (search rules) in
    let end = YieldsList-end road c.loop-lane.yielded c.loop-lane.lane-iterator c.loop-lane.yielded_by c.next.result c.next.new.self c.in-None.is c.next.ensures.steps in
    subst (λ (lanes : List Lane). Asks (flat_map (lane_files c.args.inputs.now) lanes) (g.F.Files.known c.args.files.now) (g.F.Files.known c.loop-lane.files)) (sym (map-id c.loop-lane.yielded) ∙ end.0) c.loop-lane.invariant.asked
