-- Which calls of an object in memory fail.
use Rattle.std.specs.Prelude.{◌≡◌, ℕ, List, Bool, Contains, if◌then◌else◌}
use Rattle.outside.specs.Faults.{next_count}

-- the numbers of the calls that fail, counted from 0, and how many calls and faults there were
pub record FailingCalls : Type 0 where
  pub numbers : List ℕ
  pub calls : ℕ
  pub faults : ℕ

-- before the first call
abbrev pub fresh_calls : List ℕ → FailingCalls
fresh_calls numbers = record { numbers = numbers; calls = 0; faults = 0 }

-- the next call is one that fails
abbrev pub IsDue : FailingCalls → Type 0
IsDue calls = Contains calls.numbers calls.calls

-- after a fault
abbrev pub calls_after_fault : FailingCalls → FailingCalls
calls_after_fault calls = record calls { faults = next_count calls.faults }

-- after a call that failed or didn't
abbrev pub calls_after_call : Bool → FailingCalls → FailingCalls
calls_after_call fails calls = record {
  numbers = calls.numbers;
  calls = next_count calls.calls;
  faults = if fails then next_count calls.faults else calls.faults;
}

-- one call more was counted, and the same ones fail
pub record IsNextCall (old new : FailingCalls) : Type 0 where
  pub numbers : new.numbers ≡ old.numbers
  pub calls : new.calls ≡ next_count old.calls
