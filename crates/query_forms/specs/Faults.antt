-- Faults of a query: of several the one with the least place counts, and at one place the one with the least number.
use Rattle.std.specs.Prelude.{ℕ, ◌==◌, nat_lt, ◌||◌, ◌&&◌, if◌then◌else◌, Bool, Option, Some, None, Result, Ok, Err, List, [], ◌∷◌}
use Rattle.query_forms.specs.declared.fault.Fault.{Fault}
use Rattle.query_forms.specs.declared.fault.Cause.{Cause}
use Rattle.query_forms.specs.declared.fault.Cause.TheVariants.{UnknownSource, UnknownColumn, Ambiguous, Kind, Aggregate, NotGrouped, Window, Bound, StampTwice, NameTwice, TooMany, Unsupported}

-- the number of a rule
abbrev pub cause_number : Cause → ℕ
cause_number UnknownSource = 1
cause_number UnknownColumn = 2
cause_number Ambiguous = 3
cause_number Kind = 4
cause_number Aggregate = 5
cause_number NotGrouped = 6
cause_number Window = 7
cause_number Bound = 8
cause_number StampTwice = 9
cause_number NameTwice = 10
cause_number TooMany = 11
cause_number Unsupported = 12

abbrev pub fault_at : ℕ → Cause → Fault
fault_at place cause = record { place = place; cause = cause }

abbrev pub is_before : Fault → Fault → Bool
is_before f g =
    nat_lt f.place g.place
    || ((f.place == g.place) && nat_lt (cause_number f.cause) (cause_number g.cause))

abbrev pub earlier : Fault → Fault → Fault
earlier f g = if is_before g f then g else f

abbrev pub least_from : Fault → List Fault → Fault
least_from f [] = f
least_from f (g ∷ gs) = least_from (earlier f g) gs

-- of several the least; none of none
abbrev pub least : List Fault → Option Fault
least [] = None
least (f ∷ fs) = Some (least_from f fs)

-- what is made of a part, or all the faults in it
abbrev pub Checked : Type 0 → Type 0
Checked A = Result A (List Fault)

abbrev pub refused : {A : Type 0} → ℕ → Cause → Checked A
refused place cause = Err (fault_at place cause ∷ [])

-- what a step makes of a part, or the faults of the part alone
abbrev pub and_then : {A B : Type 0} → Checked A → (A → Checked B) → Checked B
and_then (Ok a) f = f a
and_then (Err faults) f = Err faults
