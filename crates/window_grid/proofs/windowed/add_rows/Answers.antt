use Rattle.std.proofs.Common.{◌∙◌}
use Rattle.window_grid.proofs.StateLemmas.{with_rows-more}
use Rattle.window_grid.proofs.windowed.add_rows.Goals as goal

pub loop-row-preserved : goal.loop-row-preserved
loop-row-preserved g c =
    c.in_ok-add_row.ensures
    ∙ with_rows-more (g.S.Windows.windows c.args.spec.now) c.args.panes.now c.loop-row.panes c.args.rows.now c.loop-row.row-index c.row-item.result c.loop-row-test.true c.row-item.is c.loop-row.invariant
