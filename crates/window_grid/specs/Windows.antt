-- The rows of windows that have ends of their own, a window apart for each key.
use Rattle.std.specs.Prelude.{◌≡◌, ℕ, ◌+◌, ◌≤◌, Bool, true, ◌&&◌, ◌==◌, if◌then◌else◌, List, [], ◌∷◌, ◌++◌, filter, map}
use Rattle.std.specs.List.{AllByRecursion, flat_map}
use Rattle.event_value.specs.declared.aggregate.Aggregate.{Aggregate}
use Rattle.event_value.specs.declared.record.Stamped.{Stamped}
use Rattle.event_value.specs.declared.value.Value.{Value}
use Rattle.row_groups.specs.Aggregates.{aggregate_values}
use Rattle.row_groups.specs.Distinct.{distinct}
use Rattle.row_groups.specs.Keys.{is_same_key, key_of}
use Rattle.window_grid.specs.Panes.{pane_order}
use Rattle.window_grid.specs.declared.pane.Pane.{Pane}

-- which windows there are
pub record Windows : Type 0 where
  -- the ends of the windows that hold a row at a time
  pub ends : ℕ → List ℕ
  -- whether a window that ends at e holds a row at t, for e and then t
  pub holds : ℕ → ℕ → Bool
  -- how far behind a row the end of a window that holds it may lie
  pub reach : ℕ
  -- how many of the first columns are the key
  pub keys : ℕ
  -- what a window gives behind the key
  pub aggregates : List Aggregate

-- the key of a row
abbrev pub key_in : Windows → Stamped → List Value
key_in w row = key_of w.keys row.values

-- the window of a row's key that ends at e
abbrev pub pane_at : Windows → Stamped → ℕ → Pane
pane_at w row e = record { end = e; key = key_in w row }

-- the windows that hold a row
abbrev pub panes_of : Windows → Stamped → List Pane
panes_of w row = map (pane_at w row) (w.ends row.time)

-- the windows that hold some row, in order, each once
abbrev pub panes : Windows → List Stamped → List Pane
panes w rows = distinct pane_order (flat_map (panes_of w) rows)

-- whether a window holds a row, by its time and its key
abbrev pub is_in : Windows → Pane → Stamped → Bool
is_in w p row = w.holds p.end row.time && is_same_key (key_in w row) p.key

-- the rows that a window holds
abbrev pub content : Windows → List Stamped → Pane → List Stamped
content w rows p = filter (is_in w p) rows

-- the row of a window, at its end: its key, and the aggregates of its content
abbrev pub row_at : Windows → List Stamped → Pane → Stamped
row_at w rows p =
    record { time = p.end; values = p.key ++ aggregate_values w.aggregates (content w rows p) }

-- a row for each window that holds some row, in order of end and key
abbrev pub windowed : Windows → List Stamped → List Stamped
windowed w rows = map (row_at w rows) (panes w rows)

-- e stands among the ends for a row exactly where its window holds the row, and then once
abbrev pub IsEndOnce : Windows → ℕ → Type 0
IsEndOnce w e = (t : ℕ) → filter (λ x. x == e) (w.ends t) ≡ (if w.holds e t then e ∷ [] else [])

-- what the ends of windows owe
pub record AreSound (w : Windows) : Type 0 where
  pub ends_later : (t : ℕ) → AllByRecursion (λ e. t ≤ e) (w.ends t)
  pub ends_near : (t : ℕ) → AllByRecursion (λ e. e ≤ t + w.reach) (w.ends t)
  pub holds_earlier : (e t : ℕ) → w.holds e t ≡ true → t ≤ e
  pub holds_near : (e t : ℕ) → w.holds e t ≡ true → e ≤ t + w.reach
  pub once : (t : ℕ) → AllByRecursion (IsEndOnce w) (w.ends t)
