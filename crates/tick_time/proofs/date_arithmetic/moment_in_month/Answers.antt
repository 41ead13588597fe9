use Rattle.std.proofs.Common.{◌∙◌, ◌*ℤ◌, ◌+ℤ◌, ◌%◌, ◌^◌, ◌<◌, ap, arith, pos, FitsSigned, w64}
use Rattle.std.proofs.lemmas.Int.{ints, to_z-of_z, to_z_pos}
use Rattle.tick_time.specs.Moment.{moment_below_limit}
use Rattle.tick_time.specs.Ticks.{day_ticks}
use Rattle.tick_time.specs.Calendar.{day_number}
use Rattle.tick_time.specs.DateArithmetic.{date_in_month}
use Rattle.tick_time.proofs.CalendarLemmas.{date_number-is}
use Rattle.tick_time.proofs.date_arithmetic.moment_in_month.Goals as goal

pub returns : goal.returns
returns c =
    let bound = c.in_ok-number.ensures.bound in
    let fits : FitsSigned w64 c.in_ok-number.number = omega (arith, ints) in
    let fits_days : FitsSigned w64 (c.in_ok-number.number *ℤ pos day_ticks) = omega (arith, ints) in
    let small : c.args.ticks % day_ticks < 2 ^ 63 = omega arith in
    let fits_sum : FitsSigned w64 (c.in_ok-number.number *ℤ pos day_ticks +ℤ pos (c.args.ticks % day_ticks)) = omega (arith, ints) in
    let value = simp (to_z-of_z, to_z_pos) at c.below_limit.ensures in
    let number = date_number-is c.in_month-date.result c.in_ok-number.number c.in_month-date.ensures.exists c.in_ok-number.ensures.value in
    let date = c.in_month-date.ensures.value ∙ ap (λ d. date_in_month c.args.index d) (ap (λ d. d.day) c.of_ticks-day.ensures.value) in
    value ∙ ap (λ z. moment_below_limit (z *ℤ pos day_ticks +ℤ pos (c.args.ticks % day_ticks))) (number ∙ ap day_number date)
