use Rattle.window_flow.proofs.RowLemmas.{AreByTimeAndPart-all}
use Rattle.window_flow.proofs.laws.rows_are_by_time_and_part.Goals as goal

pub returns : goal.returns
returns c = AreByTimeAndPart-all
