use Rattle.std.proofs.Common.{◌≡◌, ◌-◌, ◌≤◌, length}
use Rattle.query_tokens.specs.Tokens.{tokens_from, prepended, AscendWithin}
use Rattle.query_tokens.proofs.lexer.tokens_of_utf8.Given as goal

-- the tokens so far and those of the rest are those of the text
abbrev pub invariant-loop-rest : goal.invariant-loop-rest
invariant-loop-rest l = record {
  tokens : prepended l.tokens (tokens_from 0 (length l.text - length l.rest) l.rest) ≡ tokens_from 0 0 l.text;
  ascend : AscendWithin 0 (length l.text - length l.rest) l.tokens;
  within : length l.rest ≤ length l.text;
}

abbrev pub decreases-loop-rest : goal.decreases-loop-rest
decreases-loop-rest l = length l.rest
