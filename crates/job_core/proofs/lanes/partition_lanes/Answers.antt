use Rattle.std.proofs.Common.{◌≡◌, ◌++◌, ◌+◌, ◌∷◌, [], map, take, length, refl, ap, sym, subst, ◌∙◌, arith}
use Rattle.std.proofs.lemmas.List.{length-append, length-map, length-take-le, map-append, map_more, take_all, take_more}
use Rattle.input_types.specs.declared.inputs.Partition.{Partition}
use Rattle.job_core.specs.Fresh.{fresh_lane, kinds_from, lane_kind}
use Rattle.job_core.specs.Lanes.{AreOfStream, LanesStand, kind_of, name_of}
use Rattle.job_core.proofs.FreshLemmas.{AreOfStream-push, LanesStand-append, kinds_from-push}
use Rattle.job_core.proofs.lanes.partition_lanes.Goals as goal

pub loop-partition-init : goal.loop-partition-init
loop-partition-init c = record {
  number_is = refl;
  count = ap length c.empty-lanes.ensures;
  kinds_are = ap (map kind_of) c.empty-lanes.ensures;
  of_stream = subst (λ lanes. AreOfStream c.args.used.now 0 (map name_of lanes)) (sym c.empty-lanes.ensures) tt;
  stand = subst (λ lanes. LanesStand c.args.policy.now lanes [] 0) (sym c.empty-lanes.ensures) tt;
}

pub loop-partition-preserved : goal.loop-partition-preserved
loop-partition-preserved c =
    let old = c.loop-partition.invariant in
    let at = c.loop-partition.partition-index in
    let partitions = c.args.partitions.now in
    let partition = c.partition-item.result in
    let lanes = c.loop-partition.lanes in
    let lane = c.in_ok-start_lane.field-0 in
    let started = c.in_ok-start_lane.ensures in
    let pushed : c.push.new.self ≡ lanes ++ lane ∷ [] = c.in_ok-push.ensures.ok in
    let next : take (at + 1) partitions ≡ take at partitions ++ partition ∷ [] =
    take_more partitions at partition c.loop-partition-test.true ∙ ap (λ (p : Partition). take at partitions ++ p ∷ []) (sym c.partition-item.is) in
    let numbered : c.loop-partition.number ≡ 0 + length (take at partitions) =
    omega (arith, old.number_is, length-take-le at partitions (omega (arith, c.loop-partition-test.true))) in
    let more : map fresh_lane (take (at + 1) partitions) ≡ map fresh_lane (take at partitions) ++ fresh_lane partition ∷ [] =
    map_more fresh_lane partitions at partition c.loop-partition-test.true ∙ ap (λ (p : Partition). map fresh_lane (take at partitions) ++ fresh_lane p ∷ []) (sym c.partition-item.is) in
    record {
      number_is = ap (λ n. n + 1) old.number_is;
      count = ap length pushed ∙ length-append lanes (lane ∷ []) ∙ ap (λ n. n + 1) old.count;
      kinds_are =
          ap (map kind_of) pushed
          ∙ map-append kind_of lanes (lane ∷ [])
          ∙ ap (λ kinds. kinds ++ kind_of lane ∷ []) old.kinds_are
          ∙ ap (λ kind. kinds_from c.args.used.now 0 (take at partitions) ++ kind ∷ []) (started.kind ∙ ap (λ n. lane_kind c.args.used.now n partition) numbered)
          ∙ sym (kinds_from-push c.args.used.now 0 (take at partitions) partition)
          ∙ ap (kinds_from c.args.used.now 0) (sym next);
      of_stream =
          subst (AreOfStream c.args.used.now 0) (sym (ap (map name_of) pushed ∙ map-append name_of lanes (lane ∷ [])))
          (AreOfStream-push c.args.used.now 0 (map name_of lanes) (name_of lane) old.of_stream (ap (λ kind. kind.used) started.kind)
          (ap (λ kind. kind.partition) started.kind ∙ omega (arith, old.number_is, old.count, length-map lanes name_of)));
      stand =
          subst (λ hs. LanesStand c.args.policy.now c.push.new.self hs 0) (sym more)
          (subst (λ ls. LanesStand c.args.policy.now ls (map fresh_lane (take at partitions) ++ fresh_lane partition ∷ []) 0) (sym pushed)
          (LanesStand-append c.args.policy.now lanes (lane ∷ []) (map fresh_lane (take at partitions)) (fresh_lane partition ∷ []) 0 old.stand (started.stands, tt)));
    }

pub returns-clause-stand : goal.returns-clause-stand
returns-clause-stand c =
    subst (λ ps. LanesStand c.args.policy.now c.loop-partition.lanes (map fresh_lane ps) 0) (take_all c.loop-partition.partition-index c.args.partitions.now (omega arith)) c.loop-partition.invariant.stand

pub returns-clause-kinds : goal.returns-clause-kinds
returns-clause-kinds c =
    c.loop-partition.invariant.kinds_are ∙ ap (kinds_from c.args.used.now 0) (take_all c.loop-partition.partition-index c.args.partitions.now (omega arith))
