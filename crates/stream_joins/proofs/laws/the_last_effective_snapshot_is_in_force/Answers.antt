use Rattle.stream_joins.proofs.LawLemmas.{in_force-last}
use Rattle.stream_joins.proofs.laws.the_last_effective_snapshot_is_in_force.Goals as goal

pub returns : goal.returns
returns c = in_force-last
