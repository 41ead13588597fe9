use Rattle.std.proofs.Common.{[], ◌∷◌, refl}
use Rattle.std.proofs.lemmas.Result.{err_from_is_err_and}
use Rattle.log_reading.proofs.AskingLemmas.{Asks-none, AsksOnErr-among}
use Rattle.jobs_top.proofs.documents.read_documents.Goals as goal

pub returns-in_err-query-clause-asked : goal.returns-in_err-query-clause-asked
returns-in_err-query-clause-asked g c =
    let p = err_from_is_err_and c.from_residual.result c.from_residual.ensures.1 in
    rw (p.1, p.2)
    (AsksOnErr-among _ [] (c.args.words.now.query.now ∷ []) (c.args.words.now.inputs.now ∷ []) _ _ _ _ refl (Asks-none _) c.in_err-query.ensures.asked)

pub returns-in_err-inputs-clause-asked : goal.returns-in_err-inputs-clause-asked
returns-in_err-inputs-clause-asked g c =
    let p = err_from_is_err_and c.from_residual-in_err-inputs.result c.from_residual-in_err-inputs.ensures.1 in
    rw (p.1, p.2)
    (AsksOnErr-among _ (c.args.words.now.query.now ∷ []) (c.args.words.now.inputs.now ∷ []) [] _ _ _ _ refl c.in_ok-query.ensures.asked c.in_err-inputs.ensures.asked)
