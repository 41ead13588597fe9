use Rattle.std.proofs.Common.{◌≡◌, ◌++◌, ◌-◌, ◌≤◌, take, drop}
use Rattle.std.specs.List.{flat_map}
use Rattle.stream_op.specs.Rows.{between}
use Rattle.tick_time.specs.Moment.{end_ticks}
use Rattle.window_flow.specs.Sessions.{most_of, rows_of_session, session_at, session_rows, sessions_from, timeout_of}
use Rattle.window_flow.proofs.session.SessionSpecParts.push_rows.Given as goal

-- what was given, with what the session so far and the rest give, is what all give
abbrev pub invariant-loop-place : goal.invariant-loop-place
invariant-loop-place l =
    let now = session_at l.start l.last (take (l.place - l.first) (drop l.first l.rows)) in
    record {
      first_before : l.first ≤ l.place;
      start_moment : l.start ≤ end_ticks;
      last_moment : l.last ≤ end_ticks;
      so_far : l.given ++ between l.from l.upto (flat_map (rows_of_session l.self) (sessions_from (timeout_of l.self) (most_of l.self) now (drop l.place l.rows)))
          ≡ l.initial.given ++ between l.from l.upto (session_rows l.self l.part l.rows);
    }
