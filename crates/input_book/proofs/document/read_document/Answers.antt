use Rattle.std.proofs.Common.{rules}
use Rattle.input_book.proofs.DocumentLemmas.{document-some, document-none}
use Rattle.input_book.proofs.document.read_document.Goals as goal

pub returns-in-Ok : goal.returns-in-Ok
returns-in-Ok c = document-some _ _ c.in-Ok.ensures.ok.0 c.in-Ok.ensures.ok.1

pub returns-in-Err-2 : goal.returns-in-Err-2
returns-in-Err-2 c = document-none _ (c.in-Err.ensures.refused (search rules))
