use Rattle.std.proofs.Common.{arith, rules, inr, refl, length}
use Rattle.query_tokens.proofs.TokensLemmas.{skip-turn, token-turn, stuck-turn, end-turn}
use Rattle.query_tokens.proofs.SpanLemmas.{skip_turn, token_turn}
use Rattle.query_tokens.proofs.lexer.tokens_of_utf8.Goals as goal

pub loop-rest-preserved-in-Skip : goal.loop-rest-preserved-in-Skip
loop-rest-preserved-in-Skip c = record {
  tokens = skip-turn _ _ c.in-Skip.size c.loop-rest.rest.now _ _ (search rules) (search rules) (search rules) c.loop-rest.invariant.within c.split_at.ensures.back c.loop-rest.invariant.tokens;
  ascend = skip_turn (length c.args.text.now) c.in-Skip.size c.loop-rest.rest.now _ c.loop-rest.tokens c.split_at.ensures.back c.loop-rest.invariant.ascend;
  within = omega arith;
}

pub loop-rest-preserved : goal.loop-rest-preserved
loop-rest-preserved c = record {
  tokens = token-turn c.loop-rest.tokens _ _ c.in-Token.size c.in-Token.kind c.loop-rest.rest.now _ _ (search rules) (search rules) (search rules) c.loop-rest.invariant.within c.split_at-in-Token.ensures.back
      (search rules) c.loop-rest.invariant.tokens;
  ascend = token_turn (length c.args.text.now) c.in-Token.size c.loop-rest.rest.now _ c.loop-rest.tokens _ _ (search rules) (search rules) c.loop-rest.invariant.within c.split_at-in-Token.ensures.back
      c.in_ok-push-in-Token.ensures.ok refl refl c.loop-rest.invariant.ascend;
  within = omega arith;
}

pub returns-in-Stuck-clause-err : goal.returns-in-Stuck-clause-err
returns-in-Stuck-clause-err c = inr (stuck-turn _ _ c.loop-rest.rest.now _ (search rules) (search rules) c.loop-rest.invariant.tokens)

pub returns-clause-ok : goal.returns-clause-ok
returns-clause-ok c = end-turn _ _ c.loop-rest.rest.now _ (search rules) c.loop-rest.invariant.tokens
