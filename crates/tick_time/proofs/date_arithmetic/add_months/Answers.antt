use Rattle.std.proofs.Common.{◌∙◌, ap, arith}
use Rattle.std.proofs.lemmas.Int.{ints}
use Rattle.tick_time.specs.DateArithmetic.{month_index}
use Rattle.tick_time.proofs.DateLemmas.{signed_month-none}
use Rattle.tick_time.proofs.date_arithmetic.add_months.Goals as goal
use Rattle.tick_time.proofs.date_arithmetic.add_months.Goals.{then-index-lt0-via-then-index-lt0, then-index-lt0-via-else-index-lt0+then-index-ge-END_MONTH}

pub returns-in_err-index : goal.returns-in_err-index
returns-in_err-index c =
    let index = c.month_index.ensures ∙ ap month_index c.of_ticks.ensures.value in
    c.from_residual.ensures ∙ signed_month-none _ _ (λ low high. c.in_err-index.ensures (omega (arith, ints)))

pub returns-then-index-lt0 : goal.returns-then-index-lt0
returns-then-index-lt0 c =
    let index = c.month_index.ensures ∙ ap month_index c.of_ticks.ensures.value in
    let sum = c.in_ok-index.ensures in
    elim c.then-index-lt0.branch [
      | then-index-lt0-via-then-index-lt0 w ↦ signed_month-none _ _ (λ low high. omega (arith, ints))
      | then-index-lt0-via-else-index-lt0+then-index-ge-END_MONTH w ↦ signed_month-none _ _ (λ low high. omega (arith, ints))
    ]
