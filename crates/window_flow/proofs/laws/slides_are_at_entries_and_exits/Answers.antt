use Rattle.window_flow.proofs.RowLemmas.{AreSlides-all}
use Rattle.window_flow.proofs.laws.slides_are_at_entries_and_exits.Goals as goal

pub returns : goal.returns
returns c = AreSlides-all
