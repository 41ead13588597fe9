-- What a clock in memory tells after a call.
use Rattle.std.proofs.Common.{◌≡◌, inl, inr, ℕ, suc, List, Some, None, Bool, true, false, nat_lt}
use Rattle.std.proofs.Common.{if◌then◌else◌, refl, ap, arith}
use Rattle.outside.specs.Faults.{last_count, next_count}
use Rattle.clock_gate.specs.Given.{GivesNext}
use Rattle.clock_gate.specs.MemClock.{ClockInMemory, clock_after_call, known_given, moment_at, moments_of}

given_next-cases : (moments : List ℕ) (calls : ℕ) (old new : Bool)
    → nat_lt calls last_count ≡ old → nat_lt (next_count calls) last_count ≡ new
    → GivesNext (moment_at moments calls)
    (if old then Some (moments_of moments calls) else None)
    (if new then Some (moments_of moments (next_count calls)) else None)
given_next-cases moments calls true true d e =
    let next : next_count calls ≡ suc calls = grind (arith, d, e) in
    inl (ap (λ n. Some (moments_of moments n)) next)
given_next-cases moments calls true false d e = inr refl
given_next-cases moments calls false false d e = inl refl
given_next-cases moments calls false true d e = absurd (grind (arith, d, e))

-- a call of the clock tells what it gave, or tells nothing from then on
pub given_next : (clock : ClockInMemory)
    → GivesNext (moment_at clock.moments clock.calls) (known_given clock) (known_given (clock_after_call clock))
given_next clock =
    given_next-cases clock.moments clock.calls (nat_lt clock.calls last_count)
    (nat_lt (next_count clock.calls) last_count) refl refl
