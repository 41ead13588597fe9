use Rattle.std.proofs.Common.{◌∙◌}
use Rattle.field_forms.proofs.NumberLemmas.{bytes_low_first-low_first}
use Rattle.field_forms.proofs.puts.bytes_of.Goals as goal

pub returns : goal.returns
returns c = c.to_le_bytes.ensures ∙ bytes_low_first-low_first 16 c.args.number
