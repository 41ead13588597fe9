use Rattle.core_rows.proofs.schedules.fed.Goals as goal

pub feed-requires : goal.feed-requires
feed-requires c = c.has_unread.ensures c.if-has_unread.true
