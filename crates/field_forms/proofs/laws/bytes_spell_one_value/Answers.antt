use Rattle.field_forms.proofs.WholeLemmas.{spells-once}
use Rattle.field_forms.proofs.laws.bytes_spell_one_value.Goals as goal

pub returns : goal.returns
returns g c = spells-once g.met.F.FormOf.sound
