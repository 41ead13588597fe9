-- Sessions that end below a time depend on no row from then on.
use Rattle.std.specs.Prelude.{◌≡◌, ℕ, ◌+◌, ◌<◌, ◌≤◌, Bool, true, false, ◌&&◌, cond, nat_lt, nat_le, int_lt, ℤ, pos, negsuc, unsigned_abs, List, [], ◌∷◌, ◌++◌, filter, refl, None}
use Rattle.std.specs.List.{flat_map}
use Rattle.std.specs.List.{AllByRecursion as Each}
use Rattle.std.proofs.Common.{sym, ap, ◌∙◌, arith}
use Rattle.std.proofs.lemmas.Bool.Decides.{nat_tests}
use Rattle.std.proofs.lemmas.List.Elements.{filter-append}
use Rattle.event_value.specs.declared.record.Stamped.{Stamped}
use Rattle.event_value.specs.declared.value.Value.{Value}
use Rattle.row_order.proofs.ListLemmas.{Each-all, Each-map, Each-weaker, filter-all, filter-none}
use Rattle.row_order.proofs.StretchLemmas.{AllFrom-lower, rows_below-none}
use Rattle.row_order.specs.InOrder.{AllFrom}
use Rattle.stream_op.specs.Rows.{AreInOrder, below, time_of}
use Rattle.stream_op.specs.Timewise.{at_times}
use Rattle.window_flow.specs.PartLaws.{AreSound}
use Rattle.window_flow.specs.Parts.{keys_behind}
use Rattle.window_flow.specs.Sessions.{Session, begun, end_of, goes_on, latest_end, longer, most_of, rows_of_session, session_fits, session_parting, session_row, sessions, sessions_from, timeout_of}
use Rattle.window_flow.specs.declared.session.SessionSpec.{SessionSpec}

-- whether a session ends below x
abbrev pub ends_below : ℕ → ℕ → ℕ → Session → Bool
ends_below timeout most x session = nat_lt (end_of timeout most session) x

le-true : (m n : ℕ) → nat_le m n ≡ true → m ≤ n
le-true m n h = grind (arith, nat_tests)

lt-false : (m n : ℕ) → nat_lt m n ≡ false → n ≤ m
lt-false m n h = grind (arith, nat_tests)

false-lt : (m n : ℕ) → n ≤ m → nat_lt m n ≡ false
false-lt m n h = grind (arith, nat_tests)

and-first : (a b : Bool) → (a && b) ≡ true → a ≡ true
and-first true b h = refl
and-first false b h = cc

and-second : (a b : Bool) → (a && b) ≡ true → b ≡ true
and-second true b h = h
and-second false b h = cc

pub latest_end-later : (most start : ℕ) → 0 < most → start ≤ latest_end most start
latest_end-later most start h = omega arith

module _ (timeout most : ℕ) (above : 0 < most) where
  pub in_time : (session : Session) (time : ℕ) → goes_on timeout most session time ≡ true
      → (time ≤ session.last + timeout) × (time ≤ latest_end most session.start)
  in_time session time h = (
    le-true time (session.last + timeout) (and-first _ _ h),
    le-true time (latest_end most session.start) (and-second (nat_le time (session.last + timeout)) _ h),
  )

  -- no session ends before its last row
  ends-from : (x : ℕ) (session : Session) (rows : List Stamped) → x ≤ session.last → session.last ≤ latest_end most session.start
      → AreInOrder rows → AllFrom time_of session.last rows → Each (λ (s : Session). x ≤ end_of timeout most s) (sessions_from timeout most session rows)
  ends-from x session [] h k o f = (omega arith, tt)
  ends-from x session (row ∷ rows) h k o f =
      elim (goes_on timeout most session row.time) as (λ b. goes_on timeout most session row.time ≡ b → Each (λ (s : Session). x ≤ end_of timeout most s) (cond b (sessions_from timeout most (longer session row) rows) (session ∷ sessions_from timeout most (begun row) rows))) [
        | true ↦ λ e. ends-from x (longer session row) rows (omega (arith, f.0)) (in_time session row.time e).1 o.1 o.0
        | false ↦ λ e. (omega arith, ends-from x (begun row) rows (omega (arith, f.0)) (latest_end-later most row.time above) o.1 o.0)
      ] refl

  none-end : (x : ℕ) (session : Session) (rows : List Stamped) → x ≤ session.last → session.last ≤ latest_end most session.start
      → AreInOrder rows → AllFrom time_of session.last rows → filter (ends_below timeout most x) (sessions_from timeout most session rows) ≡ []
  none-end x session rows h k o f =
      filter-none (ends_below timeout most x) (sessions_from timeout most session rows)
      (Each-weaker _ _ (sessions_from timeout most session rows) (λ s l. false-lt (end_of timeout most s) x l) (ends-from x session rows h k o f))

  sessions_from-past : (x : ℕ) (session : Session) (rows : List Stamped) → session.last ≤ latest_end most session.start → AreInOrder rows → AllFrom time_of session.last rows
      → filter (ends_below timeout most x) (sessions_from timeout most session rows) ≡ filter (ends_below timeout most x) (sessions_from timeout most session (below x rows))
  sessions_from-past x session [] k o f = refl
  sessions_from-past x session (row ∷ rows) k o f =
      elim (nat_lt row.time x) as (λ t. nat_lt row.time x ≡ t → filter (ends_below timeout most x) (sessions_from timeout most session (row ∷ rows)) ≡ filter (ends_below timeout most x) (sessions_from timeout most session (cond t (row ∷ below x rows) (below x rows)))) [
        | true ↦ λ e.
            elim (goes_on timeout most session row.time) as (λ b. goes_on timeout most session row.time ≡ b → filter (ends_below timeout most x) (cond b (sessions_from timeout most (longer session row) rows) (session ∷ sessions_from timeout most (begun row) rows)) ≡ filter (ends_below timeout most x) (cond b (sessions_from timeout most (longer session row) (below x rows)) (session ∷ sessions_from timeout most (begun row) (below x rows)))) [
              | true ↦ λ j. sessions_from-past x (longer session row) rows (in_time session row.time j).1 o.1 o.0
              | false ↦ λ j. ap (λ l. cond (ends_below timeout most x session) (session ∷ l) l) (sessions_from-past x (begun row) rows (latest_end-later most row.time above) o.1 o.0)
            ] refl
        | false ↦ λ e.
            let after : x ≤ row.time = lt-false row.time x e in
            let none : below x rows ≡ [] = rows_below-none time_of x rows (AllFrom-lower time_of x row.time rows after o.0) in
            ap (λ l. l) (elim (goes_on timeout most session row.time) as (λ b. goes_on timeout most session row.time ≡ b → filter (ends_below timeout most x) (cond b (sessions_from timeout most (longer session row) rows) (session ∷ sessions_from timeout most (begun row) rows)) ≡ filter (ends_below timeout most x) (session ∷ [])) [
              | true ↦ λ j.
                  let end : x ≤ end_of timeout most session = omega (arith, (in_time session row.time j).0, (in_time session row.time j).1) in
                  none-end x (longer session row) rows after (in_time session row.time j).1 o.1 o.0
                  ∙ sym (ap (λ b. cond b (session ∷ []) []) (false-lt (end_of timeout most session) x end))
              | false ↦ λ j. ap (λ l. cond (ends_below timeout most x session) (session ∷ l) l) (none-end x (begun row) rows after (latest_end-later most row.time above) o.1 o.0)
            ] refl)
            ∙ ap (λ l. filter (ends_below timeout most x) (sessions_from timeout most session l)) (sym none)
      ] refl

  pub sessions-past : (x : ℕ) (rows : List Stamped) → AreInOrder rows
      → filter (ends_below timeout most x) (sessions timeout most rows) ≡ filter (ends_below timeout most x) (sessions timeout most (below x rows))
  sessions-past x [] o = refl
  sessions-past x (row ∷ rows) o =
      elim (nat_lt row.time x) as (λ t. nat_lt row.time x ≡ t → filter (ends_below timeout most x) (sessions_from timeout most (begun row) rows) ≡ filter (ends_below timeout most x) (sessions timeout most (cond t (row ∷ below x rows) (below x rows)))) [
        | true ↦ λ e. sessions_from-past x (begun row) rows (latest_end-later most row.time above) o.1 o.0
        | false ↦ λ e.
            let after : x ≤ row.time = lt-false row.time x e in
            let none : below x rows ≡ [] = rows_below-none time_of x rows (AllFrom-lower time_of x row.time rows after o.0) in
            none-end x (begun row) rows after (latest_end-later most row.time above) o.1 o.0
            ∙ ap (λ l. filter (ends_below timeout most x) (sessions timeout most l)) (sym none)
      ] refl

-- the rows of a session have one time
pub rows_of_session-times : (test : ℕ → Bool) (spec : SessionSpec) (session : Session)
    → at_times test (rows_of_session spec session) ≡ cond (test (end_of (timeout_of spec) (most_of spec) session)) (rows_of_session spec session) []
rows_of_session-times test spec session = by (test (end_of (timeout_of spec) (most_of spec) session)) refl
  where
    keys : List (List Value)
    keys = keys_behind spec.parts spec.keys session.rows

    each : (b : Bool) → test (end_of (timeout_of spec) (most_of spec) session) ≡ b → Each (λ (row : Stamped). test row.time ≡ b) (rows_of_session spec session)
    each b e =
        Each-map (λ (row : Stamped). test row.time ≡ b) (session_row spec session) keys
        (Each-all (λ (key : List Value). test (end_of (timeout_of spec) (most_of spec) session) ≡ b) (λ key. e) keys)

    by : (b : Bool) → test (end_of (timeout_of spec) (most_of spec) session) ≡ b → at_times test (rows_of_session spec session) ≡ cond b (rows_of_session spec session) []
    by true e = filter-all (λ (row : Stamped). test row.time) (rows_of_session spec session) (each true e)
    by false e = filter-none (λ (row : Stamped). test row.time) (rows_of_session spec session) (each false e)

pub session_rows-times : (test : ℕ → Bool) (spec : SessionSpec) (ss : List Session)
    → at_times test (flat_map (rows_of_session spec) ss) ≡ flat_map (rows_of_session spec) (filter (λ s. test (end_of (timeout_of spec) (most_of spec) s)) ss)
session_rows-times test spec [] = refl
session_rows-times test spec (session ∷ ss) =
    filter-append (λ (row : Stamped). test row.time) (rows_of_session spec session) (flat_map (rows_of_session spec) ss)
    ∙ ap (λ l. l ++ at_times test (flat_map (rows_of_session spec) ss)) (rows_of_session-times test spec session)
    ∙ ap (λ l. cond (test (end_of (timeout_of spec) (most_of spec) session)) (rows_of_session spec session) [] ++ l) (session_rows-times test spec ss)
    ∙ push (test (end_of (timeout_of spec) (most_of spec) session)) (filter (λ s. test (end_of (timeout_of spec) (most_of spec) s)) ss)
  where
    push : (b : Bool) (rest : List Session) → cond b (rows_of_session spec session) [] ++ flat_map (rows_of_session spec) rest ≡ flat_map (rows_of_session spec) (cond b (session ∷ rest) rest)
    push true rest = refl
    push false rest = refl

above-zero : (z : ℤ) → int_lt (pos 0) z ≡ true → 0 < unsigned_abs z
above-zero (pos n) h = grind (arith, nat_tests)
above-zero (negsuc n) h = cc

pub most-above : (spec : SessionSpec) → session_fits spec ≡ true → 0 < most_of spec
most-above spec h = above-zero spec.most (and-second _ (int_lt (pos 0) spec.most) h)

pub session-sound : (spec : SessionSpec) → session_fits spec ≡ true → AreSound (session_parting spec) None
session-sound spec f = record {
  nothing = λ part. refl;
  past = λ x part rows o.
      session_rows-times (λ t. nat_lt t x) spec (sessions (timeout_of spec) (most_of spec) rows)
      ∙ ap (flat_map (rows_of_session spec)) (sessions-past (timeout_of spec) (most_of spec) (most-above spec f) x rows o)
      ∙ sym (session_rows-times (λ t. nat_lt t x) spec (sessions (timeout_of spec) (most_of spec) (below x rows)));
  within = tt;
}
