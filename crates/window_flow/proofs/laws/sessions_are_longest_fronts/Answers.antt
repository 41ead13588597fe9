use Rattle.window_flow.proofs.SessionLemmas.{AreOnlySessions-sessions}
use Rattle.window_flow.proofs.laws.sessions_are_longest_fronts.Goals as goal

pub returns : goal.returns
returns c = AreOnlySessions-sessions
