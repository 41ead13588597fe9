use Rattle.std.proofs.Common.{rules, length}
use Rattle.query_tokens.proofs.SpanLemmas.{ascend_behind, first_end}
use Rattle.query_tokens.proofs.LexemeLemmas.{lexemes_turn}
use Rattle.query_tokens.proofs.lexeme.lexemes.Goals as goal

pub bytes_of-bytes-requires-clause-within : goal.bytes_of-bytes-requires-clause-within
bytes_of-bytes-requires-clause-within c =
    first_end (length c.args.text.now) c.in-Some.token.now c.loop-token.left.now c.in-Some.after.now (search rules) c.loop-token.invariant.within

pub loop-token-preserved : goal.loop-token-preserved
loop-token-preserved c = record {
  list = lexemes_turn c.loop-token.before _ c.args.text.now c.bytes_of-bytes.result.now c.in-Some.token.now c.symbol_at.result c.symbol_behind-symbol.result c.loop-token.left.now c.in-Some.after.now
      c.loop-token.list _ _ (search rules) c.bytes_of-bytes.ensures c.symbol_at.ensures c.symbol_behind-symbol.ensures c.before_next-before.ensures (search rules) c.loop-token.invariant.list;
  within = ascend_behind (length c.args.text.now) c.in-Some.token.now c.in-Some.after.now c.loop-token.left.now (search rules) c.loop-token.invariant.within;
}
