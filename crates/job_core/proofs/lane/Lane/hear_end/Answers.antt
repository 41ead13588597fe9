use Rattle.std.proofs.Common.{refl}
use Rattle.job_core.proofs.LaneLemmas.{end_heard}
use Rattle.job_core.proofs.lane.Lane.hear_end.Goals as goal

pub returns-clause-heard : goal.returns-clause-heard
returns-clause-heard c = λ policy used partition before since w le h.
    end_heard policy used partition c.args.self _ before since w c.args.through le h c.mark.ensures.stands c.mark.ensures.rules refl refl refl refl refl refl
