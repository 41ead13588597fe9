-- A link in memory.
use Rattle.std.specs.Prelude.{◌≡◌, ◌⊎◌, ℕ, List, [], ◌∷◌, Bool, slice_get, option_map, Some}
use Rattle.outside.specs.FailingCalls.{FailingCalls, IsDue, fresh_calls}
use Rattle.connections.specs.MemConn.{ConnInMemory, fresh_conn}
use Rattle.connections.specs.declared.coming_conn.ComingConn.{ComingConn}

-- the connections that are to come, what was written on those that were given back, whether one
-- can be given back, and which calls fail
pub record LinkInMemory : Type 0 where
  pub coming : List ComingConn
  pub served : List (List ℕ)
  pub room : Bool
  pub failing : FailingCalls

-- before the first call
pub record IsFresh (coming : List ComingConn) (numbers : List ℕ) (link : LinkInMemory)
    : Type 0 where
  pub same : link.coming ≡ coming
  pub none_served : link.served ≡ []
  pub none_failed : link.failing ≡ fresh_calls numbers

-- the bytes that are read from each connection
abbrev pub bytes_of : List ComingConn → List (List ℕ)
bytes_of [] = []
bytes_of (conn ∷ coming) = conn.bytes ∷ bytes_of coming

-- the connection that a coming one becomes
abbrev pub conn_of : ComingConn → ConnInMemory
conn_of coming = fresh_conn coming.bytes coming.failing

-- it is the first of the connections that are to come
abbrev pub IsFirstOf : List ComingConn → ConnInMemory → Type 0
IsFirstOf coming conn = Some conn ≡ option_map conn_of (slice_get coming 0)

-- no connection is left, or a call that is to fail
abbrev pub HasCause : LinkInMemory → Type 0
HasCause link = (link.coming ≡ []) ⊎ IsDue link.failing
