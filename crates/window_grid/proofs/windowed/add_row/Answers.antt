use Rattle.std.proofs.Common.{List, ap, ◌∙◌}
use Rattle.event_value.specs.declared.aggregate.Aggregate.{Aggregate}
use Rattle.event_value.specs.declared.value.Value.{Value}
use Rattle.row_groups.specs.Groups.{with_item}
use Rattle.row_groups.specs.Tallies.{tallies_start, tallies_with}
use Rattle.window_grid.proofs.StateLemmas.{with_row-more}
use Rattle.window_grid.specs.Panes.{pane_order}
use Rattle.window_grid.proofs.windowed.add_row.Goals as goal

pub loop-end-preserved : goal.loop-end-preserved
loop-end-preserved g c =
    let w = g.S.Windows.windows c.args.spec.now in
    let row = c.args.row.now in
    let e = c.end-item.result in
    let now = c.loop-end.panes in
    record {
      key = c.loop-end.invariant.key;
      added =
          c.in_ok-add.ensures
          ∙ ap (λ (aggregates : List Aggregate). with_item pane_order (tallies_start aggregates) tallies_with now (record { end = e; key = c.loop-end.pane.key }) row) c.aggregates.ensures
          ∙ ap (λ (key : List Value). with_item pane_order (tallies_start w.aggregates) tallies_with now (record { end = e; key = key }) row) c.loop-end.invariant.key
          ∙ with_row-more w c.args.panes.now now row c.items-end-items.result.now c.loop-end.end-index e c.loop-end-test.true c.end-item.is c.loop-end.invariant.added;
    }
