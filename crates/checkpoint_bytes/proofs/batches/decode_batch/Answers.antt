use Rattle.checkpoint_bytes.proofs.BatchLemmas.{decoded-coreless}
use Rattle.checkpoint_bytes.proofs.batches.decode_batch.Goals as goal

pub returns-in-None : goal.returns-in-None
returns-in-None c = decoded-coreless c.args.bytes.now _ c.in_ok-batch.ensures c.in-None.is c.decode_coreless.result c.decode_coreless.ensures
