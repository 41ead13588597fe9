use Rattle.std.proofs.Common.{Err, ap, refl, sym, ◌∙◌}
use Rattle.jobs_top.proofs.AnswerLemmas.{AsksOfCommand-none, RefusesDocuments-from, ReportsFaultyFile-from}
use Rattle.jobs_top.proofs.commands.top.Goals as goal

pub returns-in_default-clause-asked : goal.returns-in_default-clause-asked
returns-in_default-clause-asked g c = AsksOfCommand-none _ _ c.in_default.ensures

pub returns-in-Err-clause-refused : goal.returns-in-Err-clause-refused
returns-in-Err-clause-refused g c = λ refused.
    RefusesDocuments-from c.in-Err.failure _ _ _ _ _ c.in-Some.ensures (sym c.status.ensures ∙ refused)
    (c.in-Err.ensures.refused c.in-Err.failure refl (sym c.status.ensures ∙ refused)) c.write_failure.ensures

pub returns-in-Err-clause-faulty_file : goal.returns-in-Err-clause-faulty_file
returns-in-Err-clause-faulty_file g c = λ failed.
    ReportsFaultyFile-from c.in-Err.failure _ _ _ _ _ _ c.in-Some.ensures (sym c.status.ensures ∙ failed)
    (λ name is. c.in-Err.ensures.faulty_file name (ap Err is)) c.write_failure.ensures
