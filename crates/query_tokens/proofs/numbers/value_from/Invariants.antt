use Rattle.std.proofs.Common.{◌≡◌, ◌≤◌, drop}
use Rattle.query_tokens.specs.Bytes.{max_number}
use Rattle.query_tokens.specs.Steps.{bounded, value_from}
use Rattle.query_tokens.proofs.numbers.value_from.Given as goal

abbrev pub invariant-loop-digit : goal.invariant-loop-digit
invariant-loop-digit l = record {
  value : bounded (value_from l.value (drop l.digit-index l.digits)) ≡ bounded (value_from l.fn.value l.digits);
  within : l.value ≤ max_number;
}
