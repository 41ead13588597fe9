use Rattle.std.proofs.Common.{◌≡◌, ◌∙◌, ap, max, refl, sym, subst, ℕ}
use Rattle.time_policy.specs.PolicyState.{LaneState, StandsFor}
use Rattle.time_policy.specs.Steps.{watermark_after_mark}
use Rattle.time_policy.specs.contracts.policy_state.PolicyState.{the_view}
use Rattle.time_policy.proofs.StandsForLemmas.{stands-mark}
use Rattle.time_policy.proofs.policy_state.PolicyState.mark.Goals as goal

pub returns-clause-stands : goal.returns-clause-stands
returns-clause-stands c = λ front stands.
    let s : LaneState = the_view c.self.inside in
    let known = subst (λ (x : LaneState). StandsFor x front) (sym c.self.view_is) stands in
    let arrival : c.arrival.result ≡ s.arrival = c.arrival.ensures ∙ ap (λ (x : LaneState). x.arrival) (sym c.self.view_is) in
    let watermark : c.watermark.result ≡ s.watermark = c.watermark.ensures ∙ ap (λ (x : LaneState). x.watermark) (sym c.self.view_is) in
    stands-mark s _ front c.args.through known refl
    (c.later-arrival.ensures ∙ ap (λ (a : ℕ). max a c.args.through) arrival)
    (c.watermark_after_mark-watermark.ensures
    ∙ ap (λ (w : ℕ). watermark_after_mark s.rules w c.later-arrival.result c.args.through) watermark)
    refl
