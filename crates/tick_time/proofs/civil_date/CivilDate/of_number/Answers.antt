use Rattle.std.proofs.Common.{◌∙◌, arith, FitsSigned, w16, ap}
use Rattle.std.proofs.lemmas.Int.{ints, to_z-of_z}
use Rattle.tick_time.specs.Calendar.{is_date}
use Rattle.tick_time.proofs.CalendarLemmas.{date_of_number-jiff, date_of_number_exists, date_of_parts}
use Rattle.tick_time.proofs.civil_date.CivilDate.of_number.Goals as goal

pub overflow_cast-result : goal.overflow_cast-result
overflow_cast-result c =
    let parts = date_of_number-jiff c.args.number c.in-Ok.date (omega (arith, c.requires)) (c.in-Ok.ensures.value ∙ omega (arith, ints)) in
    grind (arith, ints)

pub returns-clause-value : goal.returns-clause-value
returns-clause-value c =
    let parts = date_of_number-jiff c.args.number c.in-Ok.date (omega (arith, c.requires)) (c.in-Ok.ensures.value ∙ omega (arith, ints)) in
    let fits : FitsSigned w16 c.in-Ok.date.year = omega (arith, ints, c.in-Ok.date.year_in) in
    simp to_z-of_z (date_of_parts _ _ _ _ parts.0 parts.1 parts.2)

pub returns-clause-exists : goal.returns-clause-exists
returns-clause-exists c = ap is_date (returns-clause-value c) ∙ date_of_number_exists c.args.number
