-- What windows keep of the rows that they were given, for private clauses.
use Rattle.std.specs.Prelude.{ℕ, Bool, ◌&&◌, nat_lt, nat_le, List, [], ◌∷◌, ◌++◌, filter, map}
use Rattle.event_value.specs.declared.record.Stamped.{Stamped}
use Rattle.row_groups.specs.Groups.{with_items, with_value}
use Rattle.row_groups.specs.Tallies.{tallies_of, tallies_start, tallies_with, tally_values}
use Rattle.row_groups.specs.declared.tally.Tally.{Tally}
use Rattle.tick_time.specs.Moment.{end_ticks}
use Rattle.window_grid.specs.Panes.{pane_order}
use Rattle.window_grid.specs.Windows.{Windows, content, pane_at, panes}
use Rattle.window_grid.specs.declared.pane.Pane.{Pane}

-- windows with the running aggregates of the rows that they hold
abbrev pub Tallied : Type 0
Tallied = List (Pane × List Tally)

-- whether there is such a moment
abbrev pub is_moment : ℕ → Bool
is_moment e = nat_le e end_ticks

-- whether a window that ends at e is kept at w
abbrev pub is_kept : ℕ → ℕ → Bool
is_kept w e = nat_le w e && is_moment e

abbrev pub tallies_at : Windows → List Stamped → Pane → List Tally
tallies_at windows rows p = tallies_of windows.aggregates (content windows rows p)

-- the windows that hold some row and end at w or later, with their running aggregates
abbrev pub state : Windows → List Stamped → ℕ → Tallied
state windows rows w =
    map (with_value (tallies_at windows rows)) (filter (λ (p : Pane). is_kept w p.end) (panes windows rows))

-- a row with a window that holds it
abbrev pub with_pane : Windows → Stamped → ℕ → Pane × Stamped
with_pane windows row e = (pane_at windows row e, row)

-- a row with each window that holds it and ends at a moment
abbrev pub with_panes : Windows → Stamped → List (Pane × Stamped)
with_panes windows row = map (with_pane windows row) (filter is_moment (windows.ends row.time))

-- windows with one row more in those that hold it
abbrev pub with_row : Windows → Tallied → List (Pane × Stamped) → Tallied
with_row windows = with_items pane_order (tallies_start windows.aggregates) tallies_with

-- the row that a window gives
abbrev pub row_of : Pane × List Tally → Stamped
row_of g = record { time = g.0.end; values = g.0.key ++ tally_values g.1 }

-- the windows that end below u, and the others
abbrev pub closed_at : ℕ → Tallied → Tallied
closed_at u gs = filter (λ (g : Pane × List Tally). nat_lt g.0.end u) gs

abbrev pub kept_at : ℕ → Tallied → Tallied
kept_at u gs = filter (λ (g : Pane × List Tally). nat_le u g.0.end) gs

-- an end, where it is below a limit and a moment
abbrev pub end_within : ℕ → ℕ → List ℕ
end_within e limit = filter is_moment (filter (λ x. nat_lt x limit) (e ∷ []))
