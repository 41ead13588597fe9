use Rattle.jobs_top.proofs.WrittenLemmas.{WritesPrefix-none}
use Rattle.jobs_top.proofs.status_lines.write_failure.Goals as goal

pub returns-in_default : goal.returns-in_default
returns-in_default g c = WritesPrefix-none _ _
