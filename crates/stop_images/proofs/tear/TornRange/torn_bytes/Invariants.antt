use Rattle.std.proofs.Common.{◌≡◌, length}
use Rattle.stop_images.proofs.tear.TornRange.torn_bytes.Given as goal

abbrev pub invariant-places : goal.invariant-places
invariant-places l = length l.bytes ≡ l.place
