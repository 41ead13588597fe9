use Rattle.std.proofs.Common.{◌≡◌, ◌≤◌, drop}
use Rattle.value_text.specs.Numbers.{greatest_size}
use Rattle.value_text.specs.Numbers.{bounded, value_from}
use Rattle.value_text.proofs.numbers.value_from.Given as goal

abbrev pub invariant-loop-digit : goal.invariant-loop-digit
invariant-loop-digit l = record {
  value : bounded (value_from l.value (drop l.digit-index l.digits)) ≡ bounded (value_from l.fn.value l.digits);
  within : l.value ≤ greatest_size;
}
