use Rattle.std.proofs.Common.{arith}
use Rattle.query_tokens.proofs.TokensLemmas.{tokens_of-valid}
use Rattle.query_tokens.proofs.lexer.tokens.Goals as goal

pub returns-in-Ok-clause-ok : goal.returns-in-Ok-clause-ok
returns-in-Ok-clause-ok c = rw (tokens_of-valid c.args.text.now (omega arith) c.in-Ok.ensures.cases.1) c.tokens_of_utf8.ensures.ok

pub returns-in-Ok-clause-err : goal.returns-in-Ok-clause-err
returns-in-Ok-clause-err c = rw (tokens_of-valid c.args.text.now (omega arith) c.in-Ok.ensures.cases.1) c.tokens_of_utf8.ensures.err
