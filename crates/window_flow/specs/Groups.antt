-- Rows by their keys, and the rows within a reach, for private clauses.
use Rattle.std.specs.Prelude.{ℕ, ◌-◌, Bool, ◌&&◌, nat_le, nat_lt, List, [], ◌∷◌, ◌++◌, map, Option, Some, None}
use Rattle.std.specs.List.{AllByRecursion}
use Rattle.event_value.specs.declared.aggregate.Aggregate.{Aggregate}
use Rattle.event_value.specs.declared.record.Stamped.{Stamped}
use Rattle.event_value.specs.declared.value.Value.{Value}
use Rattle.row_groups.specs.Groups.{with_value}
use Rattle.stream_op.specs.Rows.{AreInOrder, between, from_on}
use Rattle.window_flow.specs.Parts.{Parting, aggregated, keys_behind, rows_of_key}

-- keys with their rows
abbrev pub Grouped : Type 0
Grouped = List (List Value × List Stamped)

-- rows with one more
abbrev pub with_last : List Stamped → Stamped → List Stamped
with_last rows row = rows ++ row ∷ []

-- each key of rows, in order, with its rows
abbrev pub groups_of : ℕ → ℕ → List Stamped → Grouped
groups_of others columns rows =
    map (with_value (rows_of_key others columns rows)) (keys_behind others columns rows)

-- the rows of each key are in order
abbrev pub EachInOrder : Grouped → Type 0
EachInOrder groups = AllByRecursion (λ (g : List Value × List Stamped). AreInOrder g.1) groups

-- what a part with its rows gives from a time on, below another
abbrev pub given_by : Parting → ℕ → ℕ → List Value × List Stamped → List Stamped
given_by p from upto g = between from upto (p.rows g.0 g.1)

-- the row of a key with its rows
abbrev pub aggregated_by : ℕ → List Aggregate → List Value × List Stamped → Stamped
aggregated_by time aggregates g = aggregated time aggregates g.0 g.1

-- the rows that are no further back of w than a reach, all where there is none
abbrev pub within : Option ℕ → ℕ → List Stamped → List Stamped
within None w rows = rows
within (Some n) w rows = from_on (w - n) rows

-- whether a time is at w or later, and below u
abbrev pub is_within : ℕ → ℕ → ℕ → Bool
is_within w u t = nat_le w t && nat_lt t u
