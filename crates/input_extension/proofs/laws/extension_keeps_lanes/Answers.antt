use Rattle.input_extension.proofs.KeptLemmas.{keeps-lanes}
use Rattle.input_extension.proofs.laws.extension_keeps_lanes.Goals as goal

pub returns : goal.returns
returns c = keeps-lanes
