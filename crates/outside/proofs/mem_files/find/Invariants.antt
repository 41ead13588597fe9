use Rattle.std.proofs.Common.{◌≡◌, drop}
use Rattle.outside.specs.MemFiles.{held_in}
use Rattle.outside.proofs.mem_files.find.Given as goal

abbrev pub invariant-loop-file : goal.invariant-loop-file
invariant-loop-file l = held_in (drop l.file-index l.held) l.name ≡ held_in l.held l.name
