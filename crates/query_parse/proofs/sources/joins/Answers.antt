use Rattle.std.proofs.Common.{rules, refl}
use Rattle.std.proofs.lemmas.Result.{err_from_is_err_and}
use Rattle.grammar_rules.proofs.Turns.{turn_on, turn_stops, turns_end}
use Rattle.query_tree.specs.declared.source.Join.{Join}
use Rattle.query_grammar.specs.Queries.{limits_of}
use Rattle.query_grammar.specs.Reading.{read_join, join_symbols, read_joins}
use Rattle.query_grammar.proofs.Takes.{join_takes}
use Rattle.query_parse.proofs.sources.joins.Goals as goal

pub joins-smaller : goal.joins-smaller
joins-smaller c = (join_takes (limits_of c.args.nesting)).shorter c.joins.parser _ _ c.in_ok-join.ensures.ok

pub joins-preserved : goal.joins-preserved
unfolding read_joins
joins-preserved c = turn_on Join join_symbols (read_join (limits_of c.args.nesting)) refl (join_takes (limits_of c.args.nesting)) c.joins.joins _ c.joins.parser _ _ _ (search rules) c.in_ok-join.ensures.ok c.in_ok-push.ensures.ok c.joins.invariant

pub returns-in_err-join-clause-err : goal.returns-in_err-join-clause-err
unfolding read_joins
returns-in_err-join-clause-err c =
    let p = err_from_is_err_and c.from_residual.result c.from_residual.ensures.1 in
    rw (p.1, p.2) (turn_stops Join join_symbols (read_join (limits_of c.args.nesting)) refl (join_takes (limits_of c.args.nesting)) c.joins.joins c.joins.parser _ _ _ (search rules) c.in_err-join.ensures.err c.joins.invariant)

pub returns-clause-ok : goal.returns-clause-ok
unfolding read_joins
returns-clause-ok c = turns_end Join join_symbols (read_join (limits_of c.args.nesting)) refl (join_takes (limits_of c.args.nesting)) c.joins.joins c.joins.parser _ (search rules) c.joins.invariant
