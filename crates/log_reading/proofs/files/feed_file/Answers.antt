use Rattle.std.proofs.Common.{ap, length, arith}
use Rattle.log_reading.proofs.FeedingLemmas.{FeedsFile-read}
use Rattle.log_reading.proofs.files.feed_file.Goals as goal

pub returns-clause-fed : goal.returns-clause-fed
returns-clause-fed g c =
    FeedsFile-read _ _ _ c.items.result.now _ _ c.in_ok-items.items c.items-4.result.now _ c.requires c.items.ensures c.items-4.ensures (omega (arith, ap length c.items-3.ensures, c.in_ok-items.ensures.few))
    c.in_ok-items.ensures.items c.in_ok-feed.ensures.fed c.in_ok-feed.ensures.same
