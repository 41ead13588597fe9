use Rattle.query_meaning.proofs.PlanLemmas.{plan-laws}
use Rattle.query_meaning.proofs.laws.plans_keep_to_the_past.Goals as goal

pub returns : goal.returns
returns c = plan-laws
