-- The refusal of a script: the least of its faults, as the answer names it.
use Rattle.std.specs.Prelude.{◌≡◌, ◌⊎◌, ℕ, Option, Some, None, Result, Ok, Err}
use Rattle.query_forms.specs.declared.fault.Fault.{Fault}
use Rattle.query_forms.specs.declared.fault.Cause.{Cause}
use Rattle.query_forms.specs.declared.fault.Cause.TheVariants as cause
use Rattle.query_type.specs.declared.type_err.TypeErr.{TypeErr}
use Rattle.query_type.specs.declared.type_err.TypeErr.TheVariants as err

abbrev pub err_of_cause : Cause → ℕ → TypeErr
err_of_cause cause.UnknownSource place = err.UnknownSource place
err_of_cause cause.UnknownColumn place = err.UnknownColumn place
err_of_cause cause.Ambiguous place = err.Ambiguous place
err_of_cause cause.Kind place = err.Kind place
err_of_cause cause.Aggregate place = err.Aggregate place
err_of_cause cause.NotGrouped place = err.NotGrouped place
err_of_cause cause.Window place = err.Window place
err_of_cause cause.Bound place = err.Bound place
err_of_cause cause.StampTwice place = err.StampTwice place
err_of_cause cause.NameTwice place = err.NameTwice place
err_of_cause cause.TooMany place = err.TooMany place
err_of_cause cause.Unsupported place = err.Unsupported place

-- the refusal that names a fault
abbrev pub err_of_fault : Fault → TypeErr
err_of_fault f = err_of_cause f.cause f.place

abbrev pub no_memory : TypeErr
no_memory = err.Memory

-- the answer where this fault is the least, or there is none
abbrev pub answer_of : {A : Type 0} → Option Fault → A → Result A TypeErr
answer_of None a = Ok a
answer_of (Some f) a = Err (err_of_fault f)

-- the refusal is the one that is due, or memory ran out
abbrev pub IsRefusal : {A : Type 0} → Result A TypeErr → TypeErr → Type 0
IsRefusal due error = (error ≡ no_memory) ⊎ (due ≡ Err error)
