use Rattle.std.proofs.Common.{◌∙◌, length, take, ap, arith}
use Rattle.std.proofs.lemmas.List.Folds.{length-prefix_len}
use Rattle.tick_time.specs.MomentReading.{is_digit}
use Rattle.tick_time.proofs.DigitLemmas.{front_passes}
use Rattle.tick_time.proofs.read_time.split_digits.Goals as goal

pub returns-clause-digits : goal.returns-clause-digits
returns-clause-digits c =
    let count = c.count_digits.ensures ∙ length-prefix_len is_digit c.args.text.now in
    c.split_at.ensures.front ∙ ap (λ n. take n c.args.text.now) count

pub returns-clause-all : goal.returns-clause-all
returns-clause-all c k d h =
    rw (returns-clause-digits c) (front_passes c.args.text.now k d (omega (arith, h, ap length (returns-clause-digits c))))
