use Rattle.extension_laws.proofs.WellFormedLemmas.{before-well_formed}
use Rattle.extension_laws.proofs.laws.what_is_extended_is_well_formed.Goals as goal

pub returns : goal.returns
returns c = before-well_formed
