use Rattle.std.proofs.Common.{rules, refl}
use Rattle.std.proofs.lemmas.Result.{err_from_is_err_and}
use Rattle.grammar_rules.proofs.Turns.{turn_on, turn_stops, turns_end}
use Rattle.query_tokens.specs.declared.symbol.Symbol.TheVariants as symbol
use Rattle.query_tree.specs.declared.select.Group.{Group}
use Rattle.query_grammar.specs.Lists.{one}
use Rattle.query_grammar.specs.Queries.{limits_of}
use Rattle.query_grammar.specs.Reading.{read_next, read_group}
use Rattle.query_grammar.proofs.Takes.{next_group_takes}
use Rattle.query_parse.proofs.groups.more_groups.Goals as goal

pub groups-smaller : goal.groups-smaller
groups-smaller c = (next_group_takes (limits_of c.args.nesting)).shorter c.groups.parser _ _ c.in_ok-next_group.ensures.ok

pub groups-preserved : goal.groups-preserved
groups-preserved c = turn_on Group (one symbol.Comma) (read_next (read_group (limits_of c.args.nesting))) refl (next_group_takes (limits_of c.args.nesting)) c.groups.more _ c.groups.parser _ _ _ (search rules) c.in_ok-next_group.ensures.ok c.in_ok-push.ensures.ok c.groups.invariant

pub returns-in_err-next_group-clause-err : goal.returns-in_err-next_group-clause-err
returns-in_err-next_group-clause-err c =
    let p = err_from_is_err_and c.from_residual.result c.from_residual.ensures.1 in
    rw (p.1, p.2) (turn_stops Group (one symbol.Comma) (read_next (read_group (limits_of c.args.nesting))) refl (next_group_takes (limits_of c.args.nesting)) c.groups.more c.groups.parser _ _ _ (search rules) c.in_err-next_group.ensures.err c.groups.invariant)

pub returns-clause-ok : goal.returns-clause-ok
returns-clause-ok c = turns_end Group (one symbol.Comma) (read_next (read_group (limits_of c.args.nesting))) refl (next_group_takes (limits_of c.args.nesting)) c.groups.more c.groups.parser _ (search rules) c.groups.invariant
