use Rattle.std.proofs.Common.{refl}
use Rattle.job_core.proofs.LaneLemmas.{broken_heard}
use Rattle.job_core.proofs.lane.Lane.hear_broken.Goals as goal

pub returns-clause-heard : goal.returns-clause-heard
returns-clause-heard c = λ policy used partition before since w le h.
    broken_heard policy used partition c.args.self _ before since w c.args.rule le h refl refl refl c.behind.ensures refl c.in_ok-drops.ensures
