use Rattle.std.proofs.Common.{◌∙◌}
use Rattle.std.proofs.lemmas.Result.{err_from_is_err_and}
use Rattle.log_reading.proofs.AskingLemmas.{AsksPrefixOf-all}
use Rattle.jobs_top.proofs.TextLemmas.{Asks-preview, AsksOnErr-behind, AsksOnErr-references, preview_of-read, preview_text-same}
use Rattle.jobs_top.proofs.preview.preview.Goals as goal

pub returns-clause-text : goal.returns-clause-text
returns-clause-text g c =
    preview_of-read _ _ c.args.accepted.now c.items.result.now c.in_ok-versions.versions c.in_ok-batch.batch _
    c.items.ensures c.in_ok-versions.ensures.asked c.in_ok-versions.ensures.versions c.in_ok-batch.ensures.batch
    (c.in_ok-print_preview.ensures
    ∙ preview_text-same _ _ _ _ _ _ _ _ c.items-outputs.ensures c.items-rows.ensures c.items-streams.ensures c.items-drops.ensures)

pub returns-in_err-batch-clause-asked : goal.returns-in_err-batch-clause-asked
returns-in_err-batch-clause-asked g c =
    let p = err_from_is_err_and c.from_residual-in_err-batch.result c.from_residual-in_err-batch.ensures.1 in
    rw (p.1, p.2)
    (AsksOnErr-behind _ c.args.accepted.now c.items.result.now _ _ _ c.items.ensures c.in_ok-versions.ensures.asked c.in_err-batch.ensures.asked)

pub returns-in_err-print_preview-clause-asked : goal.returns-in_err-print_preview-clause-asked
returns-in_err-print_preview-clause-asked g c =
    let p = err_from_is_err_and c.from_residual-in_err-print_preview.result c.from_residual-in_err-print_preview.ensures.1 in
    rw (p.1, p.2)
    (AsksPrefixOf-all _ _ _
    (Asks-preview c.args.accepted.now c.items.result.now _ _ _ c.items.ensures c.in_ok-versions.ensures.asked c.in_ok-batch.ensures.asked))

pub returns-clause-asked : goal.returns-clause-asked
returns-clause-asked g c =
    Asks-preview c.args.accepted.now c.items.result.now _ _ _ c.items.ensures c.in_ok-versions.ensures.asked c.in_ok-batch.ensures.asked
