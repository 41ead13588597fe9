use Rattle.value_text.specs.Printed.{million}
use Rattle.row_groups.proofs.NumberLemmas.{quotient-split}
use Rattle.row_groups.proofs.sum.size_in_millionths.Goals as goal

pub returns : goal.returns
returns c = quotient-split c.args.size c.args.count million c.requires.some
