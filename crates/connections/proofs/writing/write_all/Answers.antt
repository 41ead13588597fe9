use Rattle.std.proofs.Common.{arith, ◌∙◌}
use Rattle.connections.proofs.WrittenLemmas.{WritesAllBut-more}
use Rattle.connections.proofs.writing.write_all.Goals as goal

pub loop-rest-preserved : goal.loop-rest-preserved
loop-rest-preserved g c = record {
  written = rw c.split_at.ensures.back
      (WritesAllBut-more _ _ _ _ _ c.in_ok-count.count c.loop-rest.invariant.written c.in_ok-count.ensures.written);
  left = c.in_ok-count.ensures.left ∙ c.loop-rest.invariant.left;
  never_falls = omega (arith, c.in_ok-count.ensures.never_falls);
}
