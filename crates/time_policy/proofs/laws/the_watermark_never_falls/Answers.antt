use Rattle.time_policy.proofs.WatermarkLemmas.{never_falls}
use Rattle.time_policy.proofs.laws.the_watermark_never_falls.Goals as goal

pub returns : goal.returns
returns c = never_falls
