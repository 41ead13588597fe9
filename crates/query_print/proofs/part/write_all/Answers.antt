use Rattle.std.proofs.Common.{◌∙◌, map, sym}
use Rattle.query_print.proofs.WrittenLemmas.{all_words_written}
use Rattle.query_print.proofs.PartLemmas.{all_done}
use Rattle.query_print.proofs.part.write_all.Goals as goal

pub returns : goal.returns
returns g c =
    all_done g.P.Part.words c.args.parts.now c.loop-part.part-index c.loop-part.out c.args.out.now c.loop-part-test.false c.loop-part.invariant
    ∙ sym (all_words_written (map g.P.Part.words c.args.parts.now) c.args.out.now)
