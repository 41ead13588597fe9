use Rattle.std.proofs.Common.{◌≡◌, ◌++◌, ◌+◌, ◌∷◌, [], map, take, refl, ap, sym, subst, ◌∙◌, arith}
use Rattle.std.proofs.lemmas.List.{map_more}
use Rattle.arrival_log.specs.Log.{item_entry}
use Rattle.job_core.specs.Lane.{HearsAll}
use Rattle.job_core.proofs.LaneLemmas.{HearsAll-none, HearsAll-push, IsSameLane-both, IsSameLane-self}
use Rattle.job_core.proofs.lane.Lane.hear_items.Goals as goal

pub loop-item-init : goal.loop-item-init
loop-item-init c = record {
  heard = HearsAll-none c.args.self;
  same = IsSameLane-self c.args.self;
  segment = refl;
  index = omega arith;
}

pub loop-item-preserved : goal.loop-item-preserved
loop-item-preserved c =
    let old = c.loop-item.invariant in
    let f = item_entry c.args.through in
    let items = c.args.items.now in
    let at = c.loop-item.item-index in
    let item = c.item-item.result in
    let more : map f (take (at + 1) items) ≡ map f (take at items) ++ f item ∷ [] =
    map_more f items at item c.loop-item-test.true ∙ ap (λ x. map f (take at items) ++ f x ∷ []) (sym c.item-item.is) in
    let heard = c.in_ok-lane.ensures in
    record {
      heard = subst (HearsAll c.args.self c.in_ok-lane.lane) (sym more)
          (HearsAll-push c.args.self c.loop-item.lane c.in_ok-lane.lane (map f (take at items)) (f item) old.heard heard.heard);
      same = IsSameLane-both c.args.self c.loop-item.lane c.in_ok-lane.lane old.same heard.same;
      segment = heard.place.segment_is ∙ old.segment;
      index = omega (arith, heard.place.index_is, old.index);
    }
