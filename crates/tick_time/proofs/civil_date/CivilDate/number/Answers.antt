use Rattle.std.proofs.Common.{◌∙◌, arith, FitsSigned, w32, w64}
use Rattle.std.proofs.lemmas.Bool.{false≢true}
use Rattle.std.proofs.lemmas.Int.{ints, to_z-of_z}
use Rattle.tick_time.proofs.CalendarLemmas.{date_number-some, date_number-none}
use Rattle.tick_time.proofs.civil_date.CivilDate.number.Goals as goal

pub returns-in-Ok-clause-value : goal.returns-in-Ok-clause-value
returns-in-Ok-clause-value c =
    let parts = c.in-Ok.ensures.value in
    let bound = c.to_unix_epoch_day.ensures.bound in
    let fits32 : FitsSigned w32 c.to_unix_epoch_day.result = omega (arith, ints) in
    let fits64 : FitsSigned w64 c.to_unix_epoch_day.result = omega (arith, ints) in
    rw (to_z-of_z w32 c.to_unix_epoch_day.result fits32, to_z-of_z w64 c.to_unix_epoch_day.result fits64, c.to_unix_epoch_day.ensures.value, c.to_plain.ensures)
    (date_number-some c.args.self c.in-Ok.date (parts.0 ∙ omega (arith, ints, c.requires.0)) (omega (arith, ints, parts.1, c.requires.1)) (omega (arith, ints, parts.2, c.requires.2)))

pub returns-in-Err-clause-value : goal.returns-in-Err-clause-value
returns-in-Err-clause-value c =
    date_number-none c.args.self _ _ _ (omega (arith, ints, c.requires.0)) (omega (arith, ints, c.requires.1)) (omega (arith, ints, c.requires.2)) c.requires.0 (λ d. false≢true (c.in-Err.ensures.succeeds.1 d))
