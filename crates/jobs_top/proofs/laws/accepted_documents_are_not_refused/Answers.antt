use Rattle.jobs_top.proofs.RefusalLemmas.{accepted-not_refused}
use Rattle.jobs_top.proofs.laws.accepted_documents_are_not_refused.Goals as goal

pub returns : goal.returns
returns c = accepted-not_refused
