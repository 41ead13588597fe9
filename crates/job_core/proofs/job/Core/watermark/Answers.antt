use Rattle.std.proofs.Common.{ap, ◌∙◌, map}
use Rattle.job_core.specs.Lane.{own_watermark}
use Rattle.job_core.specs.Lanes.{least}
use Rattle.job_core.proofs.CoreLemmas.{watermark-own}
use Rattle.job_core.proofs.job.Core.watermark.Goals as goal

pub returns : goal.returns
returns c = λ heard w stands.
    let core = c.args.self.now in
    c.least_watermark.ensures
    ∙ ap (λ lanes. least (map own_watermark lanes)) c.items.ensures
    ∙ watermark-own core.policy core.plan.streams core.counts core.lanes heard w stands.are_of_streams stands.lanes_stand
