use Rattle.input_book.proofs.WellFormedLemmas.{accepted-well_formed}
use Rattle.input_book.proofs.laws.accepted_inputs_are_well_formed.Goals as goal

pub returns : goal.returns
returns c = accepted-well_formed
