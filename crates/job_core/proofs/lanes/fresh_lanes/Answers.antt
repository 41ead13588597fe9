use Rattle.std.proofs.Common.{◌≡◌, ◌++◌, ◌+◌, ◌∷◌, [], List, map, take, length, ap, sym, subst, ◌∙◌, arith}
use Rattle.std.proofs.lemmas.List.{length-map, map-append, take_all, take_more}
use Rattle.query_plan.specs.declared.plan.StreamUse.{StreamUse}
use Rattle.job_core.specs.Fresh.{fresh_heard_of, fresh_lane, lane_counts, lane_kinds, partitions_of}
use Rattle.job_core.specs.Lanes.{AreOfStreams, LanesStand, kind_of, name_of}
use Rattle.job_core.specs.declared.lane.Lane.{Lane}
use Rattle.job_core.proofs.FreshLemmas.{AreOfStreams-push, LanesStand-append, fresh_heard-push, lane_kinds-push, length-kinds_from}
use Rattle.job_core.proofs.lanes.fresh_lanes.Goals as goal

pub loop-used-init : goal.loop-used-init
loop-used-init c = record {
  counts_are = c.empty-counts.ensures;
  kinds_are = ap (map kind_of) c.empty-lanes.ensures;
  of_streams = subst (λ counts. AreOfStreams [] counts (map name_of c.empty-lanes.result)) (sym c.empty-counts.ensures) (ap (map name_of) c.empty-lanes.ensures);
  stand = subst (λ lanes. LanesStand c.args.inputs.now.policy lanes [] 0) (sym c.empty-lanes.ensures) tt;
}

pub loop-used-preserved : goal.loop-used-preserved
loop-used-preserved c =
    let old = c.loop-used.invariant in
    let uses = c.args.uses.now in
    let inputs = c.args.inputs.now in
    let at = c.loop-used.used-index in
    let used = c.used-item.result in
    let more = c.in_ok-more.more in
    let next : take (at + 1) uses ≡ take at uses ++ used ∷ [] = take_more uses at used c.loop-used-test.true ∙ ap (λ (u : StreamUse). take at uses ++ u ∷ []) (sym c.used-item.is) in
    let counts : c.push.new.self ≡ c.loop-used.counts ++ length more ∷ [] = c.in_ok-push.ensures.ok ∙ ap (λ (xs : List Lane). c.loop-used.counts ++ length xs ∷ []) c.items.ensures in
    let lanes : c.push_all.new.all ≡ c.loop-used.lanes ++ more = c.in_ok-push_all.ensures in
    record {
      counts_are =
          counts
          ∙ ap (λ ns. ns ++ length more ∷ []) old.counts_are
          ∙ ap (λ n. lane_counts inputs (take at uses) ++ n ∷ [])
          (sym (length-map more kind_of) ∙ ap length c.in_ok-more.ensures.kinds ∙ length-kinds_from used 0 (partitions_of inputs used))
          ∙ sym (map-append (λ (u : StreamUse). length (partitions_of inputs u)) (take at uses) (used ∷ []))
          ∙ ap (lane_counts inputs) (sym next);
      kinds_are =
          ap (map kind_of) lanes
          ∙ map-append kind_of c.loop-used.lanes more
          ∙ ap (λ kinds. kinds ++ map kind_of more) old.kinds_are
          ∙ ap (λ kinds. lane_kinds inputs (take at uses) ++ kinds) c.in_ok-more.ensures.kinds
          ∙ sym (lane_kinds-push inputs (take at uses) used)
          ∙ ap (lane_kinds inputs) (sym next);
      of_streams =
          subst (λ us. AreOfStreams us c.push.new.self (map name_of c.push_all.new.all)) (sym next)
          (subst (λ ns. AreOfStreams (take at uses ++ used ∷ []) ns (map name_of c.push_all.new.all)) (sym counts)
          (subst (AreOfStreams (take at uses ++ used ∷ []) (c.loop-used.counts ++ length more ∷ [])) (sym (ap (map name_of) lanes ∙ map-append name_of c.loop-used.lanes more))
          (AreOfStreams-push (take at uses) c.loop-used.counts (map name_of c.loop-used.lanes) used more old.of_streams c.in_ok-more.ensures.of)));
      stand =
          subst (λ us. LanesStand inputs.policy c.push_all.new.all (fresh_heard_of inputs us) 0) (sym next)
          (subst (λ ls. LanesStand inputs.policy ls (fresh_heard_of inputs (take at uses ++ used ∷ [])) 0) (sym lanes)
          (subst (λ hs. LanesStand inputs.policy (c.loop-used.lanes ++ more) hs 0) (sym (fresh_heard-push inputs (take at uses) used))
          (LanesStand-append inputs.policy c.loop-used.lanes more (fresh_heard_of inputs (take at uses)) (map fresh_lane (partitions_of inputs used)) 0 old.stand c.in_ok-more.ensures.stand)));
    }

pub returns-clause-of : goal.returns-clause-of
returns-clause-of c =
    subst (λ us. AreOfStreams us c.loop-used.counts (map name_of c.loop-used.lanes)) (take_all c.loop-used.used-index c.args.uses.now (omega arith)) c.loop-used.invariant.of_streams

pub returns-clause-stand : goal.returns-clause-stand
returns-clause-stand c =
    subst (λ us. LanesStand c.args.inputs.now.policy c.loop-used.lanes (fresh_heard_of c.args.inputs.now us) 0) (take_all c.loop-used.used-index c.args.uses.now (omega arith)) c.loop-used.invariant.stand

pub returns-clause-counts : goal.returns-clause-counts
returns-clause-counts c = c.loop-used.invariant.counts_are ∙ ap (lane_counts c.args.inputs.now) (take_all c.loop-used.used-index c.args.uses.now (omega arith))

pub returns-clause-kinds : goal.returns-clause-kinds
returns-clause-kinds c = c.loop-used.invariant.kinds_are ∙ ap (lane_kinds c.args.inputs.now) (take_all c.loop-used.used-index c.args.uses.now (omega arith))
