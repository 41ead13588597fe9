use Rattle.std.proofs.Common.{◌≡◌, ◌∙◌, None, rules, arith, sym}
use Rattle.value_text.proofs.NumberLemmas.{stuck_at}
use Rattle.value_text.proofs.numbers.value_from.Goals as goal

pub returns-in_err-value-clause-value : goal.returns-in_err-value-clause-value
returns-in_err-value-clause-value c =
    let none : c.from_residual.result ≡ None = search rules in
    none ∙ sym (stuck_at c.loop-digit.value c.loop-digit.digit-index c.args.digits.now _ (omega arith) (search rules) c.loop-digit.invariant.value)
