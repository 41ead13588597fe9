use Rattle.std.proofs.Common.{◌≡◌, ◌-◌, ◌≤◌, false, length}
use Rattle.query_tokens.specs.Steps.{end_quote_from}
use Rattle.query_tokens.proofs.texts.end_quote.Given as goal

abbrev pub invariant-loop-rest : goal.invariant-loop-rest
invariant-loop-rest l = record {
  place : end_quote_from l.second (length l.text - length l.rest) l.rest ≡ end_quote_from false 0 l.text;
  within : length l.rest ≤ length l.text;
}

abbrev pub decreases-loop-rest : goal.decreases-loop-rest
decreases-loop-rest l = length l.rest
