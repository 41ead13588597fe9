use Rattle.input_extension.proofs.KeptLemmas.{keeps-sources}
use Rattle.input_extension.proofs.laws.extension_keeps_sources.Goals as goal

pub returns : goal.returns
returns c = keeps-sources
