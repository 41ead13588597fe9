use Rattle.std.proofs.Common.{take}
use Rattle.std.specs.List.{AllZip}
use Rattle.input_extension.specs.Extension.{IsPartitionKept}
use Rattle.input_extension.proofs.stream.are_kept.Given as goal

abbrev pub invariant-loop-index : goal.invariant-loop-index
invariant-loop-index l = AllZip IsPartitionKept (take l.index l.old) (take l.index l.new)
