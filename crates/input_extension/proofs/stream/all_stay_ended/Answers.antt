use Rattle.std.proofs.Common.{◌<◌, arith, length}
use Rattle.input_extension.specs.Extension.{StaysEnded}
use Rattle.input_extension.proofs.WalkLemmas.{walked-more}
use Rattle.input_extension.proofs.stream.all_stay_ended.Goals as goal

pub loop-index-preserved : goal.loop-index-preserved
loop-index-preserved c =
    let inside : c.loop-index.index < length c.args.new.now = omega arith in
    walked-more StaysEnded c.args.old.now c.args.new.now c.loop-index.index c.index-old-index.result c.index-new-index.result
    c.loop-index.invariant c.loop-index-test.true inside c.index-old-index.is c.index-new-index.is (c.stays_ended.ensures.0 c.if-not-stays_ended.false)
