use Rattle.std.proofs.Common.{refl}
use Rattle.arrival_text.proofs.LinesLemmas.{lines-first, lines-last}
use Rattle.arrival_text.proofs.lines.split_line.Goals as goal

pub returns-in-Some-clause-lines : goal.returns-in-Some-clause-lines
returns-in-Some-clause-lines c =
    lines-first _ _ _ c.in-Some.at c.in-Some.ensures.0.high c.in-Some.ensures.1 c.in-Some.ensures.0.before c.before_return.ensures refl

pub returns-in-None-clause-lines : goal.returns-in-None-clause-lines
returns-in-None-clause-lines c = lines-last _ c.requires c.in-None.ensures
