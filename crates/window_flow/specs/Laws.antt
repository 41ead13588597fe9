-- What sessions are, what slides are, and in which order rows stand.
use Rattle.std.specs.Prelude.{◌≡◌, ℕ, ◌+◌, ◌*◌, ◌<◌, ◌≤◌, Bool, ◌&&◌, ◌||◌, ◌==◌, List, [], ◌∷◌, ◌++◌, map}
use Rattle.std.specs.List.{flat_map, list_any}
use Rattle.std.specs.Ordering.{nat_cmp}
use Rattle.std.proofs.Common.{◌⊎◌}
use Rattle.event_value.specs.declared.record.Stamped.{Stamped}
use Rattle.event_value.specs.declared.value.Value.{Value}
use Rattle.row_groups.specs.Distinct.{Rises}
use Rattle.row_groups.specs.Keys.{key_order}
use Rattle.row_order.specs.Stretches.{rows_at}
use Rattle.stream_op.specs.Rows.{AreInOrder, time_of}
use Rattle.window_flow.specs.Parts.{Parting, given, parted, parts}
use Rattle.window_flow.specs.Sessions.{Session, latest_end, session_at}
use Rattle.window_flow.specs.Sliding.{is_filled, size_of, slide_at, slides}
use Rattle.window_flow.specs.declared.sliding.SlidingSpec.{SlidingSpec}

-- The rows of all parts are in order of time; the parts rise; and at each time the rows of the
-- parts stand behind each other in this order.
pub record AreByTimeAndPart (p : Parting) (rows : List Stamped) : Type 0 where
  pub by_time : AreInOrder (parted p rows)
  pub parts_rise : Rises key_order (parts p rows)
  pub by_part : (t : ℕ) → rows_at time_of t (parted p rows)
      ≡ flat_map (λ part. rows_at time_of t (given p rows part)) (parts p rows)

-- whether some row enters or leaves at x
abbrev pub is_moment_of : ℕ → List Stamped → ℕ → Bool
is_moment_of size rows x =
    list_any (λ (row : Stamped). (row.time == x) || (row.time + size == x)) rows

-- The rows of a key are those of moments that rise; and x is one of these exactly where a row
-- enters or leaves at x, and the window then holds some row.
pub record AreSlides (spec : SlidingSpec) (key : List Value) (rows : List Stamped) (at : List ℕ) : Type 0 where
  pub of_moments : slides spec key rows ≡ map (slide_at spec key rows) at
  pub rise : Rises nat_cmp at
  pub where_held : (x : ℕ) → list_any (λ t. t == x) at
      ≡ (is_moment_of (size_of spec) rows x && is_filled (size_of spec) rows x)

-- c is the least multiple that is at least n
pub record IsLeastMultiple (most n c : ℕ) : Type 0 where
  pub multiple : (m : ℕ) × (c ≡ m * most)
  pub at_least : n ≤ c
  pub least : (m : ℕ) → n ≤ m * most → c ≤ m * most

-- each row comes at most the timeout after the one before, the first one after t, and at most at c
abbrev pub AreClose : ℕ → ℕ → ℕ → List Stamped → Type 0
AreClose timeout c t [] = Unit {0}
AreClose timeout c t (row ∷ rows) =
    (row.time ≤ t + timeout) × (row.time ≤ c) × AreClose timeout c row.time rows

-- the next row, where there is one, comes later than the timeout after t, or later than c
abbrev pub IsApart : ℕ → ℕ → ℕ → List Stamped → Type 0
IsApart timeout c t [] = Unit {0}
IsApart timeout c t (row ∷ rows) = (t + timeout < row.time) ⊎ (c < row.time)

-- the time of the last row, or t where there is none
abbrev pub last_time : ℕ → List Stamped → ℕ
last_time t [] = t
last_time t (row ∷ rows) = last_time row.time rows

-- A session is the longest front of rows that come close: it begins with a row, and the rest are
-- left.
pub record IsLongestFront (timeout most : ℕ) (rows : List Stamped) (session : Session) (row : Stamped) (front rest : List Stamped) : Type 0 where
  pub whole : rows ≡ row ∷ front ++ rest
  pub held : session ≡ session_at row.time (last_time row.time front) (row ∷ front)
  pub close : AreClose timeout (latest_end most row.time) row.time front
  pub longest : IsApart timeout (latest_end most row.time) (last_time row.time front) rest

-- the longest front, and the sessions of the rows that are left
abbrev pub AreSessions : ℕ → ℕ → List Stamped → List Session → Type 0
AreSessions timeout most rows [] = rows ≡ []
AreSessions timeout most rows (session ∷ ss) =
    (row : Stamped) × (front : List Stamped) × (rest : List Stamped)
    × IsLongestFront timeout most rows session row front rest × AreSessions timeout most rest ss

-- these are the sessions of rows, and no others are
pub record AreOnlySessions (timeout most : ℕ) (rows : List Stamped) (ss : List Session) : Type 0 where
  pub are : AreSessions timeout most rows ss
  pub only : (others : List Session) → AreSessions timeout most rows others → others ≡ ss
