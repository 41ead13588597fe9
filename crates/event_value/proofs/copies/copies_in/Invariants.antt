use Rattle.std.proofs.Common.{◌≡◌, take}
use Rattle.event_value.proofs.copies.copies_in.Given as goal

abbrev pub invariant-loop-item : goal.invariant-loop-item
invariant-loop-item g l = l.copied ≡ take l.item-index l.items
