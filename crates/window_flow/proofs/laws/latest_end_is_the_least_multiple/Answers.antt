use Rattle.window_flow.proofs.SessionLemmas.{latest_end-least}
use Rattle.window_flow.proofs.laws.latest_end_is_the_least_multiple.Goals as goal

pub returns : goal.returns
returns c = latest_end-least
