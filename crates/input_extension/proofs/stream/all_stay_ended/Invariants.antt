use Rattle.std.proofs.Common.{take}
use Rattle.std.specs.List.{AllZip}
use Rattle.input_extension.specs.Extension.{StaysEnded}
use Rattle.input_extension.proofs.stream.all_stay_ended.Given as goal

abbrev pub invariant-loop-index : goal.invariant-loop-index
invariant-loop-index l = AllZip StaysEnded (take l.index l.old) (take l.index l.new)
