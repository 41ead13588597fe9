use Rattle.std.proofs.Common.{ap, length}
use Rattle.input_extension.proofs.ExtendingLemmas.{none-early}
use Rattle.input_extension.proofs.reference.ReferenceSource.extends.Goals as goal

pub returns-in-None-clause-ok : goal.returns-in-None-clause-ok
returns-in-None-clause-ok c = record {
  kept = c.is_kept.ensures.0 c.if-not-is_kept.false;
  snapshots = none-early c.args.w c.args.self.now.snapshots c.args.new.now.snapshots c.split_at.result.1.now c.items.result.now (length c.items-2.result.now)
      c.in-None.ensures c.split_at.ensures.back c.items.ensures (ap length c.items-2.ensures);
}
