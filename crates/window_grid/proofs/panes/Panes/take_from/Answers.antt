use Rattle.std.proofs.Common.{List, ap, ◌∙◌, filter}
use Rattle.std.specs.Ordering.{is_gt, is_le}
use Rattle.event_value.specs.declared.value.Value.{Value}
use Rattle.row_groups.specs.declared.tally.Tally.{Tally}
use Rattle.window_grid.proofs.PaneLemmas.{closed_at-below, kept_at-from}
use Rattle.window_grid.specs.State.{closed_at, kept_at}
use Rattle.window_grid.specs.contracts.pane.PaneOrd.TheImpl.{ghosts}
use Rattle.window_grid.specs.declared.pane.Pane.{Pane}
use Rattle.window_grid.proofs.panes.Panes.take_from.Goals as goal

pub returns-clause-closed : goal.returns-clause-closed
returns-clause-closed c =
    let u = c.args.upto in
    let entries = c.self.inside.panes.entries in
    c.in_ok-panes.ensures.below
    ∙ ap (λ (key : List Value). filter (λ (g : Pane × List Tally). is_gt (ghosts.cmp (record { end = u; key = key }) g.0)) entries) c.empty.ensures
    ∙ closed_at-below u entries
    ∙ ap (closed_at u) c.self.view_is

pub returns-clause-kept : goal.returns-clause-kept
returns-clause-kept c =
    let u = c.args.upto in
    let entries = c.self.inside.panes.entries in
    c.in_ok-panes.ensures.from
    ∙ ap (λ (key : List Value). filter (λ (g : Pane × List Tally). is_le (ghosts.cmp (record { end = u; key = key }) g.0)) entries) c.empty.ensures
    ∙ kept_at-from u entries
    ∙ ap (kept_at u) c.self.view_is
