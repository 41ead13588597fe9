use Rattle.extension_laws.proofs.WellFormedLemmas.{behind-well_formed}
use Rattle.extension_laws.proofs.laws.what_extends_is_well_formed.Goals as goal

pub returns : goal.returns
returns c = behind-well_formed
