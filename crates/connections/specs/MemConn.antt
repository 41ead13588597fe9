-- A connection in memory.
use Rattle.std.specs.Prelude.{ℕ, List, []}
use Rattle.outside.specs.FailingCalls.{FailingCalls, fresh_calls}

-- what is left to read, what was written, and which calls fail
pub record ConnInMemory : Type 0 where
  pub left : List ℕ
  pub written : List ℕ
  pub failing : FailingCalls

-- before the first call
abbrev pub fresh_conn : List ℕ → List ℕ → ConnInMemory
fresh_conn bytes numbers = record { left = bytes; written = []; failing = fresh_calls numbers }
