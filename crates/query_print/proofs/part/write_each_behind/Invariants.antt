use Rattle.std.proofs.Common.{◌≡◌, map, drop}
use Rattle.query_print.specs.Writing.{each_written}
use Rattle.query_print.proofs.part.write_each_behind.Given as goal

abbrev pub invariant-loop-part : goal.invariant-loop-part
invariant-loop-part g l =
    each_written l.sign (map g.P.Part.words (drop l.part-index l.parts)) l.out ≡ each_written l.sign (map g.P.Part.words l.parts) l.fn.out
