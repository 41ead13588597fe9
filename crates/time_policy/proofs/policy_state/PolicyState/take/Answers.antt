use Rattle.std.proofs.Common.{◌≡◌, ◌∙◌, ap, max, refl, sym, subst, ℕ}
use Rattle.time_policy.specs.PolicyState.{LaneState, StandsFor}
use Rattle.time_policy.specs.Steps.{earliest_time_in, watermark_after_record}
use Rattle.time_policy.specs.Verdicts.{verdict_by_rules}
use Rattle.time_policy.specs.contracts.policy_state.PolicyState.{the_view}
use Rattle.time_policy.proofs.StandsForLemmas.{stands-good, verdict-is}
use Rattle.time_policy.proofs.policy_state.PolicyState.take.Goals as goal

pub returns-clause-verdict : goal.returns-clause-verdict
returns-clause-verdict c = λ front stands.
    verdict-is c.args.self front c.args.enqueued c.args.through c.args.stamp c.args.key.now
    c.later-arrival.result c.earliest_time-earliest.result c.verdict-verdict.result stands
    (c.later-arrival.ensures ∙ ap (λ (a : ℕ). max a c.earlier.result) c.arrival.ensures
    ∙ ap (λ (n : ℕ). max c.args.self.arrival n) c.earlier.ensures)
    c.earliest_time-earliest.ensures
    (c.verdict-verdict.ensures
    ∙ ap (λ (x : LaneState). verdict_by_rules x.rules c.later-arrival.result c.earliest_time-earliest.result c.args.stamp) c.self.view_is)

pub returns-clause-stands : goal.returns-clause-stands
returns-clause-stands c = λ front stands.
    let s : LaneState = the_view c.self.inside in
    let known = subst (λ (x : LaneState). StandsFor x front) (sym c.self.view_is) stands in
    let arrival : c.arrival.result ≡ s.arrival = c.arrival.ensures ∙ ap (λ (x : LaneState). x.arrival) (sym c.self.view_is) in
    let watermark : c.watermark.result ≡ s.watermark = c.watermark.ensures ∙ ap (λ (x : LaneState). x.watermark) (sym c.self.view_is) in
    stands-good s _ front c.args.enqueued c.args.through c.args.stamp c.args.key.now
    c.earliest_time-earliest.result c.verdict-verdict.result known refl
    (c.later-arrival.ensures ∙ ap (λ (a : ℕ). max a c.earlier.result) arrival ∙ ap (λ (n : ℕ). max s.arrival n) c.earlier.ensures)
    (c.earliest_time-earliest.ensures ∙ ap (λ (x : LaneState). earliest_time_in x c.args.key.now) (sym c.self.view_is))
    c.verdict-verdict.ensures
    (c.watermark_after_record-watermark.ensures
    ∙ ap (λ (w : ℕ). watermark_after_record s.rules w c.later-arrival.result c.verdict-verdict.result) watermark)
    c.in_ok-marks.ensures
