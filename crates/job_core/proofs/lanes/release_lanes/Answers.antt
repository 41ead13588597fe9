use Rattle.std.proofs.Common.{◌++◌, ◌∷◌, [], map, ap, sym, subst, ◌∙◌, rules, map-id, append-nil}
use Rattle.std.proofs.lemmas.List.{map-append}
use Rattle.std.proofs.lemmas.Iterator.Consumers.{YieldsList-end}
use Rattle.std.proofs.lemmas.Iterator.Adapters.{YieldsList-from_vec}
use Rattle.job_core.specs.Gathered.{joined}
use Rattle.job_core.specs.Lanes.{AreReleased}
use Rattle.job_core.specs.declared.lane.Lane.{Lane}
use Rattle.job_core.proofs.CoreLemmas.{AreReleased-push}
use Rattle.job_core.proofs.StreamLemmas.{joined-append}
use Rattle.job_core.proofs.lanes.release_lanes.Goals as goal

pub loop-lane-preserved : goal.loop-lane-preserved
loop-lane-preserved c =
    let old = c.loop-lane.invariant in
    let upto = c.args.upto in
    let xs = c.loop-lane.yielded in
    let lane = c.in-Some.lane in
    let one = c.in_ok-released.released in
    let dropped = λ (l : Lane). l.drops in
    record {
      released =
          subst (λ news. AreReleased upto (xs ++ lane ∷ []) news c.push-in-loop-lane.new.self) (sym c.in_ok-push.ensures.ok)
          (subst (λ rows. AreReleased upto (xs ++ lane ∷ []) (c.loop-lane.left ++ one.lane ∷ []) rows) (sym c.in_ok-push-2.ensures.ok)
          (AreReleased-push upto xs c.loop-lane.left c.loop-lane.rows lane one.lane one.rows old.released c.in_ok-released.ensures.released));
      drops_are =
          c.in_ok-push_all.ensures
          ∙ ap (λ ds. ds ++ one.drops) old.drops_are
          ∙ ap (λ ds. joined (map dropped xs) ++ ds) (c.in_ok-released.ensures.drops ∙ sym (append-nil lane.drops))
          ∙ sym (joined-append (map dropped xs) (lane.drops ∷ []))
          ∙ ap joined (sym (map-append dropped xs (lane ∷ [])));
    }

pub returns-clause-released : goal.returns-clause-released
returns-clause-released c =
    let end = YieldsList-end (YieldsList-from_vec {s = c.into_iter-lane-iterator.result} c.args.lanes (search rules) (search rules))
    c.loop-lane.yielded c.loop-lane.lane-iterator c.loop-lane.yielded_by c.next.result c.next.new.self c.in-None.is c.next.ensures.steps in
    subst (λ lanes. AreReleased c.args.upto lanes c.loop-lane.left c.loop-lane.rows) (sym (map-id c.loop-lane.yielded) ∙ end.0) c.loop-lane.invariant.released

pub returns-clause-drops : goal.returns-clause-drops
returns-clause-drops c =
    let end = YieldsList-end (YieldsList-from_vec {s = c.into_iter-lane-iterator.result} c.args.lanes (search rules) (search rules))
    c.loop-lane.yielded c.loop-lane.lane-iterator c.loop-lane.yielded_by c.next.result c.next.new.self c.in-None.is c.next.ensures.steps in
    c.loop-lane.invariant.drops_are ∙ ap (λ lanes. joined (map (λ (l : Lane). l.drops) lanes)) (sym (map-id c.loop-lane.yielded) ∙ end.0)
