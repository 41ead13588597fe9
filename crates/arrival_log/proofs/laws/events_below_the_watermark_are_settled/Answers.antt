use Rattle.arrival_log.proofs.SettledLemmas.{settled}
use Rattle.arrival_log.proofs.laws.events_below_the_watermark_are_settled.Goals as goal

pub returns : goal.returns
returns c = settled
