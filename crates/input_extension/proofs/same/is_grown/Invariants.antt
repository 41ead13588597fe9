use Rattle.std.proofs.Common.{◌≡◌, take}
use Rattle.input_extension.proofs.same.is_grown.Given as goal

abbrev pub invariant-loop-index : goal.invariant-loop-index
invariant-loop-index g l = take l.index l.old ≡ take l.index l.new
