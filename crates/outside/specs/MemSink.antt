-- A sink in memory.
use Rattle.std.specs.Prelude.{ℕ, List, []}
use Rattle.outside.specs.FailingCalls.{FailingCalls, fresh_calls}

-- what was written, and which calls fail
pub record SinkInMemory : Type 0 where
  pub written : List ℕ
  pub failing : FailingCalls

-- before the first call
abbrev pub fresh_sink : List ℕ → SinkInMemory
fresh_sink numbers = record { written = []; failing = fresh_calls numbers }
