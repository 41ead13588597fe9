use Rattle.job_core.proofs.ApartLemmas.{stands-apart}
use Rattle.job_core.proofs.laws.lanes_are_fed_apart.Goals as goal

pub returns : goal.returns
returns c = stands-apart
