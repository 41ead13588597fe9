use Rattle.std.proofs.Common.{◌≡◌, map, drop}
use Rattle.query_print.specs.Writing.{all_written}
use Rattle.query_print.proofs.part.write_all.Given as goal

abbrev pub invariant-loop-part : goal.invariant-loop-part
invariant-loop-part g l =
    all_written (map g.P.Part.words (drop l.part-index l.parts)) l.out ≡ all_written (map g.P.Part.words l.parts) l.fn.out
