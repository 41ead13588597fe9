use Rattle.std.proofs.Common.{refl, ◌∙◌}
use Rattle.job_core.proofs.LaneLemmas.{record_heard}
use Rattle.job_core.proofs.lane.Lane.hear_record.Goals as goal

pub returns-clause-heard : goal.returns-clause-heard
returns-clause-heard c = λ policy used partition before since w le h.
    record_heard policy used partition c.args.self _ before since w c.args.enqueued c.args.through
    c.in_ok-stamp.stamp c.items.result.now c.args.values.now c.in_ok-state.verdict
    c.in_ok-stamp.ensures (c.items.ensures ∙ c.in_ok-key.ensures) le h
    c.in_ok-state.ensures.verdict c.in_ok-state.ensures.stands
    c.in_ok-state.ensures.rules refl refl c.behind.ensures c.in_ok-kept.ensures c.in_ok-drops.ensures
