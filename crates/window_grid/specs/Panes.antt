-- A window of one key, by its end.
use Rattle.std.specs.Ordering.{nat_cmp, on, then_cmp}
use Rattle.std.specs.declared.cmp.Ordering.{Ordering}
use Rattle.row_groups.specs.Keys.{key_order}
use Rattle.window_grid.specs.declared.pane.Pane.{Pane}

-- by the end, and then by the key
abbrev pub pane_order : Pane → Pane → Ordering
pane_order = then_cmp (on (λ (p : Pane). p.end) nat_cmp) (on (λ (p : Pane). p.key) key_order)
