use Rattle.std.proofs.Common.{◌∙◌, sym}
use Rattle.query_grammar.proofs.QueryLaws.{due-once}
use Rattle.query_grammar.proofs.laws.no_text_has_two_answers.Goals as goal

pub returns : goal.returns
returns c = λ text a b first second. sym (due-once text a first) ∙ due-once text b second
