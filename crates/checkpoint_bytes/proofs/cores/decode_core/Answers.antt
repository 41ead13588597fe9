use Rattle.std.proofs.Common.{◌∙◌, sym}
use Rattle.checkpoint_bytes.proofs.CoreLemmas.{core-out_of_order}
use Rattle.checkpoint_bytes.proofs.cores.decode_core.Goals as goal

pub returns-else-is_core_in_order : goal.returns-else-is_core_in_order
returns-else-is_core_in_order c =
    core-out_of_order c.args.bytes.now _ c.in-Some.core c.in_ok-core.ensures c.in-Some.is
    (sym c.is_core_in_order.ensures ∙ c.if-is_core_in_order.false)
