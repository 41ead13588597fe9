-- Sessions are longest fronts, and there are no others.
use Rattle.std.proofs.Common.{◌≡◌, ℕ, ◌+◌, ◌-◌, ◌*◌, ◌/◌, ◌<◌, ◌≤◌, ◌⊎◌, inl, inr, Bool, true, false, cond, List, [], ◌∷◌, ◌++◌, refl, sym, ap, subst, ◌∙◌, arith, append-nil, append_assoc}
use Rattle.std.specs.Prelude.{◌&&◌, nat_le}
use Rattle.std.proofs.Math.Nat.{mul-le-mul_right}
use Rattle.std.proofs.lemmas.Bool.Decides.{nat_tests}
use Rattle.event_value.specs.declared.record.Stamped.{Stamped}
use Rattle.window_flow.specs.Laws.{AreClose, AreOnlySessions, AreSessions, IsApart, IsLeastMultiple, IsLongestFront, last_time}
use Rattle.window_flow.specs.Sessions.{Session, begun, goes_on, latest_end, longer, session_at, sessions, sessions_from}

true-le : (m n : ℕ) → m ≤ n → nat_le m n ≡ true
true-le m n h = grind (arith, nat_tests)

false-le : (m n : ℕ) → n < m → nat_le m n ≡ false
false-le m n h = grind (arith, nat_tests)

le-true : (m n : ℕ) → nat_le m n ≡ true → m ≤ n
le-true m n h = grind (arith, nat_tests)

le-false : (m n : ℕ) → nat_le m n ≡ false → n < m
le-false m n h = grind (arith, nat_tests)

and-false : (a : Bool) → (a && false) ≡ false
and-false true = refl
and-false false = refl

module _ (timeout most : ℕ) where
  goes_on-true : (s : Session) (time : ℕ) → time ≤ s.last + timeout → time ≤ latest_end most s.start → goes_on timeout most s time ≡ true
  goes_on-true s time h k =
      ap (λ b. b && nat_le time (latest_end most s.start)) (true-le time (s.last + timeout) h)
      ∙ true-le time (latest_end most s.start) k

  goes_on-false : (s : Session) (time : ℕ) → (s.last + timeout < time) ⊎ (latest_end most s.start < time) → goes_on timeout most s time ≡ false
  goes_on-false s time (inl h) = ap (λ b. b && nat_le time (latest_end most s.start)) (false-le time (s.last + timeout) h)
  goes_on-false s time (inr h) =
      ap (λ b. nat_le time (s.last + timeout) && b) (false-le time (latest_end most s.start) h)
      ∙ and-false (nat_le time (s.last + timeout))

  -- rows that come close are in the session, and those behind them have the further sessions
  sessions_from-front : (s : Session) (front rest : List Stamped) → AreClose timeout (latest_end most s.start) s.last front
      → IsApart timeout (latest_end most s.start) (last_time s.last front) rest
      → sessions_from timeout most s (front ++ rest) ≡ session_at s.start (last_time s.last front) (s.rows ++ front) ∷ sessions timeout most rest
  sessions_from-front s [] [] h k = ap (λ rows. session_at s.start s.last rows ∷ []) (sym (append-nil s.rows))
  sessions_from-front s [] (row ∷ rest) h k =
      ap (λ b. cond b (sessions_from timeout most (longer s row) rest) (s ∷ sessions_from timeout most (begun row) rest)) (goes_on-false s row.time k)
      ∙ ap (λ rows. session_at s.start s.last rows ∷ sessions timeout most (row ∷ rest)) (sym (append-nil s.rows))
  sessions_from-front s (row ∷ front) rest h k =
      ap (λ b. cond b (sessions_from timeout most (longer s row) (front ++ rest)) (s ∷ sessions_from timeout most (begun row) (front ++ rest))) (goes_on-true s row.time h.0 h.1)
      ∙ sessions_from-front (longer s row) front rest h.2 k
      ∙ ap (λ rows. session_at s.start (last_time row.time front) rows ∷ sessions timeout most rest) (append_assoc s.rows (row ∷ []) front)

  -- how a session goes on over rows
  record GoesOver (s : Session) (rows : List Stamped) : Type 0 where
    pub front : List Stamped
    pub rest : List Stamped
    pub whole : rows ≡ front ++ rest
    pub close : AreClose timeout (latest_end most s.start) s.last front
    pub longest : IsApart timeout (latest_end most s.start) (last_time s.last front) rest
    pub further : AreSessions timeout most rest (sessions timeout most rest)

  AreSessions-begun : (row : Stamped) (rows : List Stamped) → GoesOver (begun row) rows → AreSessions timeout most (row ∷ rows) (sessions timeout most (row ∷ rows))
  AreSessions-begun row rows g =
      let are : AreSessions timeout most (row ∷ rows) (session_at row.time (last_time row.time g.front) (row ∷ g.front) ∷ sessions timeout most g.rest) = (
        row,
        g.front,
        g.rest,
        record {
          whole = ap (λ l. row ∷ l) g.whole;
          held = refl;
          close = g.close;
          longest = g.longest;
        },
        g.further,
      ) in
      subst (AreSessions timeout most (row ∷ rows)) (sym (ap (sessions_from timeout most (begun row)) g.whole ∙ sessions_from-front (begun row) g.front g.rest g.close g.longest)) are

  goes_over : (s : Session) (rows : List Stamped) → GoesOver s rows
  goes_over s [] = record { front = []; rest = []; whole = refl; close = tt; longest = tt; further = refl }
  goes_over s (row ∷ rows) =
      elim (goes_on timeout most s row.time) as (λ b. goes_on timeout most s row.time ≡ b → GoesOver s (row ∷ rows)) [
        | true ↦ λ e.
            let g = goes_over (longer s row) rows in
            record {
              front = row ∷ g.front;
              rest = g.rest;
              whole = ap (λ l. row ∷ l) g.whole;
              close = (le-true row.time (s.last + timeout) (and-first _ _ e), le-true row.time (latest_end most s.start) (and-second (nat_le row.time (s.last + timeout)) _ e), g.close);
              longest = g.longest;
              further = g.further;
            }
        | false ↦ λ e. record {
          front = [];
          rest = row ∷ rows;
          whole = refl;
          close = tt;
          longest = apart (nat_le row.time (s.last + timeout)) refl e;
          further = AreSessions-begun row rows (goes_over (begun row) rows);
        }
      ] refl
    where
      and-first : (a b : Bool) → (a && b) ≡ true → a ≡ true
      and-first true b h = refl
      and-first false b h = cc

      and-second : (a b : Bool) → (a && b) ≡ true → b ≡ true
      and-second true b h = h
      and-second false b h = cc

      apart : (a : Bool) → nat_le row.time (s.last + timeout) ≡ a → (nat_le row.time (s.last + timeout) && nat_le row.time (latest_end most s.start)) ≡ false
          → (s.last + timeout < row.time) ⊎ (latest_end most s.start < row.time)
      apart true h k = inr (le-false row.time (latest_end most s.start) (sym (ap (λ b. b && nat_le row.time (latest_end most s.start)) h) ∙ k))
      apart false h k = inl (le-false row.time (s.last + timeout) h)

  AreSessions-sessions : (rows : List Stamped) → AreSessions timeout most rows (sessions timeout most rows)
  AreSessions-sessions [] = refl
  AreSessions-sessions (row ∷ rows) = AreSessions-begun row rows (goes_over (begun row) rows)

  AreSessions-only : (rows : List Stamped) (others : List Session) → AreSessions timeout most rows others → others ≡ sessions timeout most rows
  AreSessions-only rows [] h = sym (ap (sessions timeout most) h)
  AreSessions-only rows (session ∷ ss) h =
      let row = h.0 in
      let front = h.1 in
      let rest = h.2 in
      let f : IsLongestFront timeout most rows session row front rest = h.3 in
      ap (λ x. x ∷ ss) f.held
      ∙ ap (λ l. session_at row.time (last_time row.time front) (row ∷ front) ∷ l) (AreSessions-only rest ss h.4)
      ∙ sym (ap (sessions timeout most) f.whole ∙ sessions_from-front (begun row) front rest f.close f.longest)

  pub AreOnlySessions-sessions : (rows : List Stamped) → AreOnlySessions timeout most rows (sessions timeout most rows)
  AreOnlySessions-sessions rows = record {
    are = AreSessions-sessions rows;
    only = AreSessions-only rows;
  }

next : (m k : ℕ) → m < k → m + 1 ≤ k
next m k h = omega arith

pub latest_end-least : (most start : ℕ) → 0 < most → IsLeastMultiple most (start + most) (latest_end most start)
latest_end-least most start h = record {
  multiple = ((start + most + (most - 1)) / most, refl);
  at_least = omega arith;
  least = λ m k. by m k (cases ((start + most + (most - 1)) / most) m);
}
  where
    cases : (a b : ℕ) → (a ≤ b) ⊎ (b < a)
    cases a b = grind arith

    by : (m : ℕ) → start + most ≤ m * most → ((start + most + (most - 1)) / most ≤ m) ⊎ (m < (start + most + (most - 1)) / most) → latest_end most start ≤ m * most
    by m k (inl l) = mul-le-mul_right most l
    by m k (inr l) =
        let up : (m + 1) * most ≤ (start + most + (most - 1)) / most * most = mul-le-mul_right most (next m _ l) in
        absurd (omega arith)
