use Rattle.query_grammar.specs.Reading.{answer_of}
use Rattle.query_grammar.proofs.QueryLaws.{answer_of-due}
use Rattle.query_grammar.proofs.laws.each_text_has_an_answer.Goals as goal

pub returns : goal.returns
returns c = λ text. (answer_of text, answer_of-due text)
