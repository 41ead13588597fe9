use Rattle.std.proofs.Common.{rules, refl}
use Rattle.std.proofs.lemmas.Result.{err_from_is_err_and}
use Rattle.grammar_rules.proofs.Turns.{turn_on, turn_stops, turns_end}
use Rattle.query_tokens.specs.declared.symbol.Symbol.TheVariants as symbol
use Rattle.query_tree.specs.declared.select.Select.{Select}
use Rattle.query_grammar.specs.Lists.{one}
use Rattle.query_grammar.specs.Queries.{limits_of}
use Rattle.query_grammar.specs.Reading.{read_union_more, read_unions}
use Rattle.query_grammar.proofs.Takes.{union_more_takes}
use Rattle.query_parse.proofs.statements.unions.Goals as goal

pub unions-smaller : goal.unions-smaller
unions-smaller c = (union_more_takes (limits_of c.args.nesting)).shorter c.unions.parser _ _ c.in_ok-union_more.ensures.ok

pub unions-preserved : goal.unions-preserved
unfolding read_unions
unions-preserved c = turn_on Select (one symbol.Union) (read_union_more (limits_of c.args.nesting)) refl (union_more_takes (limits_of c.args.nesting)) c.unions.more _ c.unions.parser _ _ _ (search rules) c.in_ok-union_more.ensures.ok c.in_ok-push.ensures.ok c.unions.invariant

pub returns-in_err-union_more-clause-err : goal.returns-in_err-union_more-clause-err
unfolding read_unions
returns-in_err-union_more-clause-err c =
    let p = err_from_is_err_and c.from_residual.result c.from_residual.ensures.1 in
    rw (p.1, p.2) (turn_stops Select (one symbol.Union) (read_union_more (limits_of c.args.nesting)) refl (union_more_takes (limits_of c.args.nesting)) c.unions.more c.unions.parser _ _ _ (search rules) c.in_err-union_more.ensures.err c.unions.invariant)

pub returns-clause-ok : goal.returns-clause-ok
unfolding read_unions
returns-clause-ok c = turns_end Select (one symbol.Union) (read_union_more (limits_of c.args.nesting)) refl (union_more_takes (limits_of c.args.nesting)) c.unions.more c.unions.parser _ (search rules) c.unions.invariant
