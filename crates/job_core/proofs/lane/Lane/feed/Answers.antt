use Rattle.std.proofs.Common.{◌≡◌, ◌++◌, ◌-◌, ◌∷◌, [], map, take, drop, length, get_or, ap, sym, subst, ◌∙◌, arith}
use Rattle.std.proofs.lemmas.List.{length-drop, take_all}
use Rattle.arrival_log.specs.Log.{End, item_entry}
use Rattle.job_core.specs.Heard.{next_entries}
use Rattle.job_core.specs.Lane.{IsFed, through_of}
use Rattle.job_core.proofs.LaneLemmas.{HearsAll-push, IsFed-heard, IsSameLane-both, next-all, next-items}
use Rattle.job_core.proofs.lane.Lane.feed.Goals as goal

pub returns-in_ok-lane-clause-fed : goal.returns-in_ok-lane-clause-fed
returns-in_ok-lane-clause-fed c =
    let old = c.args.self in
    let items = c.args.items.now in
    let index = old.place.index in
    let through = c.through_at-through.result in
    let through_is : through ≡ through_of old = c.through_at-through.ensures ∙ ap (λ ts. get_or ts old.place.segment 0) c.items.ensures in
    let more = ap (λ t. next_entries t items index c.args.n) (sym through_is) ∙ next-items through items index c.args.n (omega (arith, c.if-n-unread.true, c.requires.within)) in
    let lane = c.in_ok-lane in
    subst (λ es. IsFed old es lane.lane) (sym (more ∙ ap (λ k. map (item_entry through) (take k (drop index items))) (omega arith)))
    (IsFed-heard old lane.lane _ c.requires.in_segment lane.ensures.heard lane.ensures.same)

pub returns-in_ok-lane-2-clause-fed : goal.returns-in_ok-lane-2-clause-fed
returns-in_ok-lane-2-clause-fed c =
    let old = c.args.self in
    let items = c.args.items.now in
    let index = old.place.index in
    let through = c.through_at-through.result in
    let through_is : through ≡ through_of old = c.through_at-through.ensures ∙ ap (λ ts. get_or ts old.place.segment 0) c.items.ensures in
    let rest = take (length items - index) (drop index items) in
    let all : rest ≡ drop index items = take_all (length items - index) (drop index items) (omega (arith, length-drop index items)) in
    let more =
    ap (λ t. next_entries t items index c.args.n) (sym through_is)
    ∙ next-all through items index c.args.n c.requires.within (omega (arith, c.if-n-unread.false, c.requires.within, c.requires.unread))
    ∙ ap (λ es. map (item_entry through) es ++ End through ∷ []) (sym all) in
    let lane = c.in_ok-lane-2 in
    subst (λ es. IsFed old es c.hear_end.result) (sym more)
    (IsFed-heard old c.hear_end.result _ c.requires.in_segment (HearsAll-push old lane.lane c.hear_end.result (map (item_entry through) rest) (End through) lane.ensures.heard c.hear_end.ensures.heard)
    (IsSameLane-both old lane.lane c.hear_end.result lane.ensures.same c.hear_end.ensures.same))
