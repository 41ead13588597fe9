use Rattle.std.proofs.Common.{◌≡◌, ◌++◌, length}
use Rattle.query_tokens.specs.Lexemes.{lexemes_behind, lexemes_of}
use Rattle.query_tokens.specs.Tokens.{AscendWithin}
use Rattle.query_tokens.proofs.lexeme.lexemes.Given as goal

-- the tokens so far and those that are left are those of the text
abbrev pub invariant-loop-token : goal.invariant-loop-token
invariant-loop-token l = record {
  list : l.list ++ lexemes_behind l.before l.text l.left ≡ lexemes_of l.text l.tokens;
  within : AscendWithin 0 (length l.text) l.left;
}

abbrev pub decreases-loop-token : goal.decreases-loop-token
decreases-loop-token l = length l.left
