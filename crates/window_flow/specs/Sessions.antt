-- The meaning of a session window: rows that follow each other closely, up to a longest duration.
use Rattle.std.specs.Prelude.{ℕ, ◌+◌, ◌-◌, ◌*◌, ◌/◌, min, Bool, ◌&&◌, nat_le, int_le, int_lt, pos, unsigned_abs, List, [], ◌∷◌, ◌++◌, map, if◌then◌else◌}
use Rattle.std.specs.List.{flat_map}
use Rattle.event_value.specs.declared.record.Stamped.{Stamped}
use Rattle.event_value.specs.declared.value.Value.{Value}
use Rattle.window_flow.specs.Parts.{Parting, aggregated, keys_behind, parted, rows_of_key}
use Rattle.window_flow.specs.declared.session.SessionSpec.{SessionSpec}

-- the timeout isn't below 0, and the maximum is above 0
abbrev pub session_fits : SessionSpec → Bool
session_fits spec = int_le (pos 0) spec.timeout && int_lt (pos 0) spec.most

-- their ticks
abbrev pub timeout_of : SessionSpec → ℕ
timeout_of spec = unsigned_abs spec.timeout

abbrev pub most_of : SessionSpec → ℕ
most_of spec = unsigned_abs spec.most

-- a session: the times of its first and its last row, and its rows
pub record Session : Type 0 where
  pub start : ℕ
  pub last : ℕ
  pub rows : List Stamped

-- the least multiple of the maximum that is at least the start plus the maximum
abbrev pub latest_end : ℕ → ℕ → ℕ
latest_end most start = (start + most + (most - 1)) / most * most

-- the timeout after the last row, and no later than that
abbrev pub end_of : ℕ → ℕ → Session → ℕ
end_of timeout most session = min (session.last + timeout) (latest_end most session.start)

-- whether a row comes at most the timeout after the last one, and no later than the latest end
abbrev pub goes_on : ℕ → ℕ → Session → ℕ → Bool
goes_on timeout most session time =
    nat_le time (session.last + timeout) && nat_le time (latest_end most session.start)

abbrev pub session_at : ℕ → ℕ → List Stamped → Session
session_at start last rows = record { start = start; last = last; rows = rows }

-- the session that a row begins
abbrev pub begun : Stamped → Session
begun row = session_at row.time row.time (row ∷ [])

-- the session that goes on with a row
abbrev pub longer : Session → Stamped → Session
longer session row = session_at session.start row.time (session.rows ++ row ∷ [])

-- a session and those behind it: each row goes on with the session, or begins the next
abbrev pub sessions_from : ℕ → ℕ → Session → List Stamped → List Session
sessions_from timeout most session [] = session ∷ []
sessions_from timeout most session (row ∷ rows) =
    if goes_on timeout most session row.time
    then sessions_from timeout most (longer session row) rows
    else session ∷ sessions_from timeout most (begun row) rows

-- the sessions of rows; laws.rt says what they are in other words
abbrev pub sessions : ℕ → ℕ → List Stamped → List Session
sessions timeout most [] = []
sessions timeout most (row ∷ rows) = sessions_from timeout most (begun row) rows

-- the row of a session and a key, at the session's end
abbrev pub session_row : SessionSpec → Session → List Value → Stamped
session_row spec session key =
    aggregated (end_of (timeout_of spec) (most_of spec) session) spec.aggs key
    (rows_of_key spec.parts spec.keys session.rows key)

-- a row for each key of a session, in order of the keys
abbrev pub rows_of_session : SessionSpec → Session → List Stamped
rows_of_session spec session =
    map (session_row spec session) (keys_behind spec.parts spec.keys session.rows)

-- the rows of a part
abbrev pub session_rows : SessionSpec → List Value → List Stamped → List Stamped
session_rows spec part rows =
    flat_map (rows_of_session spec) (sessions (timeout_of spec) (most_of spec) rows)

-- each part by itself
abbrev pub session_parting : SessionSpec → Parting
session_parting spec = record { columns = spec.parts; rows = session_rows spec }

-- the rows of a session window, in order of end, part and key
abbrev pub session_window : SessionSpec → List Stamped → List Stamped
session_window spec rows = parted (session_parting spec) rows
