use Rattle.input_extension.proofs.RefusalLemmas.{refused-excludes, refused-unique}
use Rattle.input_extension.proofs.laws.refusals_are_exact.Goals as goal

pub returns : goal.returns
returns c old new w = record { excluded = refused-excludes old new w; unique = refused-unique old new w }
