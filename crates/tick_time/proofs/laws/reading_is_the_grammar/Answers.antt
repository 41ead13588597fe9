use Rattle.tick_time.proofs.FormLemmas.{form_read}
use Rattle.tick_time.proofs.ReadLemmas.{read_is_form}
use Rattle.tick_time.proofs.laws.reading_is_the_grammar.Goals as goal

pub returns-clause-forms : goal.returns-clause-forms
returns-clause-forms c = form_read

pub returns-clause-nothing_else : goal.returns-clause-nothing_else
returns-clause-nothing_else c = read_is_form
