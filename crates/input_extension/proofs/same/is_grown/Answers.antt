use Rattle.std.proofs.Common.{refl}
use Rattle.input_extension.proofs.GrownLemmas.{grown-at_end}
use Rattle.input_extension.proofs.same.is_grown.Goals as goal

pub returns : goal.returns
returns g c = (
  λ _. grown-at_end c.loop-index.index c.args.old.now c.args.new.now c.loop-index-test.false c.loop-index.auto.index-end c.loop-index.invariant,
  λ _. refl,
)
