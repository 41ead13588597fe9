use Rattle.std.proofs.Common.{take}
use Rattle.std.specs.List.{AllZip}
use Rattle.input_extension.proofs.source.extend_all.Given as goal

abbrev pub invariant-loop-index : goal.invariant-loop-index
invariant-loop-index g l = AllZip (g.S.Source.Extends l.w) (take l.index l.old) (take l.index l.new)
