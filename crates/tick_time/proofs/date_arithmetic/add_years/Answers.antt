use Rattle.std.proofs.Common.{◌∙◌, arith}
use Rattle.std.proofs.lemmas.Int.{ints}
use Rattle.tick_time.proofs.DateLemmas.{signed_month-none, month_index_before_end}
use Rattle.tick_time.proofs.date_arithmetic.add_years.Goals as goal

pub returns-in_err-checked_mul : goal.returns-in_err-checked_mul
returns-in_err-checked_mul c =
    let index = month_index_before_end c.args.ticks c.requires in
    c.from_residual.ensures ∙ signed_month-none _ _ (λ low high. c.in_err-checked_mul.ensures (omega (arith, ints)))
