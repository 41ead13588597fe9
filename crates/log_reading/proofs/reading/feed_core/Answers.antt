use Rattle.std.proofs.lemmas.Result.{err_from_is_err_and}
use Rattle.log_reading.proofs.AskingLemmas.{Asks-same, AsksOnErr-same}
use Rattle.log_reading.proofs.CoreLemmas.{All-fresh_core, FeedsCore-fed, files-core}
use Rattle.log_reading.proofs.reading.feed_core.Goals as goal

pub feed_lanes-requires : goal.feed_lanes-requires
feed_lanes-requires g c = All-fresh_core _ c.args.core _ _ c.take_lanes-rest.ensures c.requires

pub returns-in_err-fed-clause-asked : goal.returns-in_err-fed-clause-asked
returns-in_err-fed-clause-asked g c =
    let p = err_from_is_err_and c.from_residual.result c.from_residual.ensures.1 in
    rw (p.1, p.2) (AsksOnErr-same _ _ _ _ _ (files-core _ c.args.core _ _ c.take_lanes-rest.ensures c.requires) c.in_err-fed.ensures.asked)

pub returns-clause-fed : goal.returns-clause-fed
returns-clause-fed g c =
    FeedsCore-fed _ _ c.args.core _ _ _ c.in_ok-fed.fed c.take_lanes-rest.ensures c.put_lanes.ensures c.requires c.in_ok-fed.ensures.fed

pub returns-clause-asked : goal.returns-clause-asked
returns-clause-asked g c = Asks-same _ _ _ _ (files-core _ c.args.core _ _ c.take_lanes-rest.ensures c.requires) c.in_ok-fed.ensures.asked
