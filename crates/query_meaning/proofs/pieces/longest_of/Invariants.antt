use Rattle.std.proofs.Common.{take}
use Rattle.query_meaning.specs.Lists.{AreNoLonger}
use Rattle.query_meaning.proofs.pieces.longest_of.Given as goal

abbrev pub invariant-loop-list : goal.invariant-loop-list
invariant-loop-list l = AreNoLonger (take l.list-index l.lists) l.longest
