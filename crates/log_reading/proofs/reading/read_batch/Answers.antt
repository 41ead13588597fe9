use Rattle.std.proofs.Common.{sym, subst, ◌∙◌}
use Rattle.std.proofs.lemmas.Result.{err_from_is_err_and}
use Rattle.input_book.specs.Laws.{IsWellFormed}
use Rattle.log_reading.proofs.AskingLemmas.{Asks-same, AsksOnErr-same, AsksPrefixOf-all, AsksPrefixOf-none}
use Rattle.log_reading.proofs.CoreLemmas.{IsFreshCore-made}
use Rattle.log_reading.proofs.BatchLemmas.{IsWholeBatch-read, ended-well_formed, files-fed}
use Rattle.log_reading.proofs.reading.read_batch.Goals as goal

pub returns-in_err-ended-clause-asked : goal.returns-in_err-ended-clause-asked
returns-in_err-ended-clause-asked g c =
    let p = err_from_is_err_and c.from_residual.result c.from_residual.ensures.1 in
    rw (p.1, p.2) (AsksPrefixOf-none _ _)

pub fresh-requires : goal.fresh-requires
fresh-requires g c = subst IsWellFormed (sym c.in_ok-ended.ensures) (ended-well_formed c.args.inputs.now c.requires)

pub returns-in_err-core-clause-asked : goal.returns-in_err-core-clause-asked
returns-in_err-core-clause-asked g c =
    let p = err_from_is_err_and c.from_residual-in_err-core.result c.from_residual-in_err-core.ensures.1 in
    rw (p.1, p.2) (AsksPrefixOf-none _ _)

pub feed_core-requires : goal.feed_core-requires
feed_core-requires g c =
    IsFreshCore-made c.in_ok-ended.ended c.args.plan.now _ c.in_ok-core.core c.in_ok-core.ensures.plan c.in_ok-core.ensures.stands c.in_ok-core.ensures.policy c.in_ok-core.ensures.lanes

pub returns-in_err-fed-clause-asked : goal.returns-in_err-fed-clause-asked
returns-in_err-fed-clause-asked g c =
    let p = err_from_is_err_and c.from_residual-in_err-fed.result c.from_residual-in_err-fed.ensures.1 in
    rw (p.1, p.2)
    (AsksOnErr-same _ _ _ _ _
    (files-fed c.args.inputs.now c.args.plan.now c.in_ok-ended.ended c.in_ok-core.core _ c.in_ok-ended.ensures c.in_ok-core.ensures.plan) c.in_err-fed.ensures.asked)

pub returns-in_err-rest-clause-asked : goal.returns-in_err-rest-clause-asked
returns-in_err-rest-clause-asked g c =
    let p = err_from_is_err_and c.from_residual-in_err-rest.result c.from_residual-in_err-rest.ensures.1 in
    rw (p.1, p.2)
    (AsksPrefixOf-all _ _ _
    (Asks-same _ _ _ _
    (files-fed c.args.inputs.now c.args.plan.now c.in_ok-ended.ended c.in_ok-core.core _ c.in_ok-ended.ensures c.in_ok-core.ensures.plan) c.in_ok-fed.ensures.asked))

pub returns-clause-batch : goal.returns-clause-batch
returns-clause-batch g c =
    IsWholeBatch-read (g.F.Files.known c.args.files.now) c.args.inputs.now c.args.plan.now c.args.versions c.in_ok-ended.ended c.in_ok-core.core c.in_ok-fed.fed c.in_ok-rest.rest c.in_ok-rest.batch
    c.in_ok-ended.ensures c.in_ok-core.ensures.plan c.in_ok-core.ensures.policy (c.in_ok-core.ensures.start ∙ c.zero.ensures) c.in_ok-core.ensures.counts c.in_ok-fed.ensures.fed c.in_ok-rest.ensures.cut

pub returns-clause-asked : goal.returns-clause-asked
returns-clause-asked g c =
    Asks-same _ _ _ _
    (files-fed c.args.inputs.now c.args.plan.now c.in_ok-ended.ended c.in_ok-core.core _ c.in_ok-ended.ensures c.in_ok-core.ensures.plan) c.in_ok-fed.ensures.asked
