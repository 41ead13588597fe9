use Rattle.query_grammar.proofs.QueryLaws.{ok_from, err_from, only_from}
use Rattle.query_parse.proofs.query.parse.Goals as goal

pub returns-clause-ok : goal.returns-clause-ok
returns-clause-ok c = ok_from _ c.read_text-parsed.result c.read_text-parsed.ensures.ok

pub returns-clause-err : goal.returns-clause-err
returns-clause-err c = err_from _ c.read_text-parsed.result c.read_text-parsed.ensures.err

pub returns-clause-only : goal.returns-clause-only
returns-clause-only c = only_from _ c.read_text-parsed.result c.read_text-parsed.ensures.ok c.read_text-parsed.ensures.err
