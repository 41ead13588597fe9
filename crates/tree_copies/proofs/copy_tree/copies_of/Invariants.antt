use Rattle.std.proofs.Common.{◌≡◌, take}
use Rattle.tree_copies.proofs.copy_tree.copies_of.Given as goal

abbrev pub invariant-loop-node : goal.invariant-loop-node
invariant-loop-node g l = l.copied ≡ take l.node-index l.nodes
