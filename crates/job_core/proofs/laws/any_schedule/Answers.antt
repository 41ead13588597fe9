use Rattle.job_core.proofs.ScheduleLemmas.{any-schedule}
use Rattle.job_core.proofs.laws.any_schedule.Goals as goal

pub returns : goal.returns
returns c = any-schedule
