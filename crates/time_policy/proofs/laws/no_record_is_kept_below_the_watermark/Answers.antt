use Rattle.time_policy.proofs.WatermarkLemmas.{kept_from_watermark}
use Rattle.time_policy.proofs.laws.no_record_is_kept_below_the_watermark.Goals as goal

pub returns : goal.returns
returns c = kept_from_watermark
