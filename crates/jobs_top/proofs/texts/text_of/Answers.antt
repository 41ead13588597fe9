use Rattle.std.proofs.Common.{Err, ap, sym, ◌∙◌}
use Rattle.std.proofs.lemmas.Result.{err_from_is_err_and}
use Rattle.jobs_top.specs.WordsView.{command_in}
use Rattle.jobs_top.proofs.TextLemmas.{AsksInOrder-documents, AsksInOrder-documents_err, AsksInOrder-log, AsksInOrder-log_err, AsksUpToFile-log, HoldsInputs-well_formed, IsTextOf-preview, MayAsk-log}
use Rattle.jobs_top.proofs.texts.text_of.Goals as goal

pub returns-in_err-documents-clause-asked : goal.returns-in_err-documents-clause-asked
returns-in_err-documents-clause-asked g c = AsksInOrder-documents_err _ (command_in c.args.words.now) _ _ c.in_err-documents.ensures.asked

pub returns-in_err-accepted-clause-asked : goal.returns-in_err-accepted-clause-asked
returns-in_err-accepted-clause-asked g c = AsksInOrder-documents (command_in c.args.words.now) _ _ c.in_ok-documents.ensures.asked

pub preview-requires : goal.preview-requires
preview-requires g c = HoldsInputs-well_formed c.in_ok-documents.documents.inputs _ c.in_ok-accepted.ensures.ok.inputs

pub returns-in_err-preview-in-Preview-clause-asked : goal.returns-in_err-preview-in-Preview-clause-asked
returns-in_err-preview-in-Preview-clause-asked g c =
    AsksInOrder-log_err _ (command_in c.args.words.now) c.in_ok-accepted.accepted _ _ _
    (MayAsk-log _ (command_in c.args.words.now) c.in_ok-documents.documents c.in_ok-accepted.accepted c.in-Preview.is c.in_ok-documents.ensures.content c.in_ok-accepted.ensures.ok)
    c.in_ok-documents.ensures.asked c.in_err-preview-in-Preview.ensures.asked

pub returns-in_err-preview-in-Preview-clause-faulty_file : goal.returns-in_err-preview-in-Preview-clause-faulty_file
returns-in_err-preview-in-Preview-clause-faulty_file g c = λ name is.
    let p = err_from_is_err_and c.from_residual-in_err-preview-in-Preview.result c.from_residual-in_err-preview-in-Preview.ensures.1 in
    AsksUpToFile-log c.in_err-preview-in-Preview.field-0.0 name (command_in c.args.words.now) c.in_ok-accepted.accepted _ _ _
    (cc)
    (MayAsk-log _ (command_in c.args.words.now) c.in_ok-documents.documents c.in_ok-accepted.accepted c.in-Preview.is c.in_ok-documents.ensures.content c.in_ok-accepted.ensures.ok)
    c.in_ok-documents.ensures.asked c.in_err-preview-in-Preview.ensures.asked

pub returns-in-Preview-clause-asked : goal.returns-in-Preview-clause-asked
returns-in-Preview-clause-asked g c =
    AsksInOrder-log (command_in c.args.words.now) c.in_ok-accepted.accepted _ _ _
    (MayAsk-log _ (command_in c.args.words.now) c.in_ok-documents.documents c.in_ok-accepted.accepted c.in-Preview.is c.in_ok-documents.ensures.content c.in_ok-accepted.ensures.ok)
    c.in_ok-documents.ensures.asked c.in_ok-preview-in-Preview.ensures.asked

pub returns-in-Preview-clause-text : goal.returns-in-Preview-clause-text
returns-in-Preview-clause-text g c =
    IsTextOf-preview _ _ (command_in c.args.words.now) c.in_ok-documents.documents c.in_ok-accepted.accepted _ c.in-Preview.is
    c.in_ok-documents.ensures.asked c.in_ok-documents.ensures.content c.in_ok-accepted.ensures.ok c.in_ok-preview-in-Preview.ensures.text

pub returns-in_err-canonical_line-in-Check-clause-asked : goal.returns-in_err-canonical_line-in-Check-clause-asked
returns-in_err-canonical_line-in-Check-clause-asked g c = AsksInOrder-documents (command_in c.args.words.now) _ _ c.in_ok-documents.ensures.asked

pub returns-clause-asked : goal.returns-clause-asked
returns-clause-asked g c = AsksInOrder-documents (command_in c.args.words.now) _ _ c.in_ok-documents.ensures.asked
