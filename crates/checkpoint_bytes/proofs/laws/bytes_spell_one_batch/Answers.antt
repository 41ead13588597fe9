use Rattle.checkpoint_bytes.proofs.BatchLemmas.{spells-one}
use Rattle.checkpoint_bytes.proofs.laws.bytes_spell_one_batch.Goals as goal

pub returns : goal.returns
returns c = spells-one
