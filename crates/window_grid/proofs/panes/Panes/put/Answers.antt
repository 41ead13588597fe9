use Rattle.std.proofs.Common.{ap, ◌∙◌}
use Rattle.std.specs.BTreeMap.{insert_entry}
use Rattle.std.specs.declared.cmp.Ordering.{Ordering}
use Rattle.window_grid.proofs.PaneLemmas.{derived_pane_order-is}
use Rattle.window_grid.specs.Panes.{pane_order}
use Rattle.window_grid.specs.State.{Tallied}
use Rattle.window_grid.specs.declared.pane.Pane.{Pane}
use Rattle.window_grid.proofs.panes.Panes.put.Goals as goal

pub returns : goal.returns
returns c =
    c.in_ok-insert.ensures.entries
    ∙ ap (λ (R : Pane → Pane → Ordering). insert_entry R c.self.inside.panes.entries c.args.pane c.args.tallies) derived_pane_order-is
    ∙ ap (λ (gs : Tallied). insert_entry pane_order gs c.args.pane c.args.tallies) c.self.view_is
