use Rattle.std.proofs.Common.{◌∙◌, map, sym}
use Rattle.query_print.proofs.WrittenLemmas.{each_behind_written}
use Rattle.query_print.proofs.PartLemmas.{each_done}
use Rattle.query_print.proofs.part.write_each_behind.Goals as goal

pub returns : goal.returns
returns g c =
    each_done c.args.sign g.P.Part.words c.args.parts.now c.loop-part.part-index c.loop-part.out c.args.out.now c.loop-part-test.false c.loop-part.invariant
    ∙ sym (each_behind_written c.args.sign (map g.P.Part.words c.args.parts.now) c.args.out.now)
