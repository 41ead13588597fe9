use Rattle.row_groups.proofs.ExactSumLemmas.{exact_sum-all}
use Rattle.row_groups.proofs.laws.sums_are_exact.Goals as goal

pub returns : goal.returns
returns c = exact_sum-all
