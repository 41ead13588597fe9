use Rattle.input_book.proofs.WellFormedLemmas.{accepted-well_formed}
use Rattle.reading_rows.proofs.references.inputs.Goals as goal

pub returns : goal.returns
returns c = accepted-well_formed c.in_ok-inputs.inputs (_, c.in_ok-inputs.ensures.ok)
