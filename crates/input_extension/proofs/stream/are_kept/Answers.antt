use Rattle.std.proofs.Common.{◌<◌, ◌∙◌, ap, arith, length, sym}
use Rattle.input_extension.specs.Extension.{IsPartitionKept}
use Rattle.input_types.specs.declared.inputs.Partition.{Partition}
use Rattle.input_extension.proofs.GrownLemmas.{grown-along}
use Rattle.input_extension.proofs.WalkLemmas.{walked-more}
use Rattle.input_extension.proofs.stream.are_kept.Goals as goal

pub loop-index-preserved : goal.loop-index-preserved
loop-index-preserved c =
    let inside : c.loop-index.index < length c.args.new.now = omega arith in
    walked-more IsPartitionKept c.args.old.now c.args.new.now c.loop-index.index c.index-old-index.result c.index-new-index.result
    c.loop-index.invariant c.loop-index-test.true inside c.index-old-index.is c.index-new-index.is
    (grown-along c.items.result.now c.items-in-loop-index.result.now c.index-old-index.result.segments c.index-new-index.result.segments
    c.items.ensures (c.items-in-loop-index.ensures ∙ sym (ap (λ (p : Partition). p.segments) c.index-new-index.is)) (c.is_grown.ensures.0 c.if-not-is_grown.false))
