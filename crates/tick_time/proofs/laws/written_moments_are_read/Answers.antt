use Rattle.tick_time.proofs.RoundTripLemmas.{moment_of-moment_text}
use Rattle.tick_time.proofs.laws.written_moments_are_read.Goals as goal

pub returns : goal.returns
returns c = moment_of-moment_text
