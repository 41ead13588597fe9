use Rattle.std.proofs.Common.{rules, refl}
use Rattle.std.proofs.lemmas.Result.{err_from_is_err_and}
use Rattle.grammar_rules.proofs.Turns.{turn_on, turn_stops, turns_end}
use Rattle.query_tokens.specs.declared.symbol.Symbol.TheVariants as symbol
use Rattle.query_tree.specs.declared.script.Def.{Def}
use Rattle.query_grammar.specs.Lists.{one}
use Rattle.query_grammar.specs.Queries.{limits_of}
use Rattle.query_grammar.specs.Reading.{read_next, read_def}
use Rattle.query_grammar.proofs.Takes.{next_def_takes}
use Rattle.query_parse.proofs.statements.more_defs.Goals as goal

pub defs-smaller : goal.defs-smaller
defs-smaller c = (next_def_takes (limits_of c.args.nesting)).shorter c.defs.parser _ _ c.in_ok-next_def.ensures.ok

pub defs-preserved : goal.defs-preserved
defs-preserved c = turn_on Def (one symbol.Comma) (read_next (read_def (limits_of c.args.nesting))) refl (next_def_takes (limits_of c.args.nesting)) c.defs.more _ c.defs.parser _ _ _ (search rules) c.in_ok-next_def.ensures.ok c.in_ok-push.ensures.ok c.defs.invariant

pub returns-in_err-next_def-clause-err : goal.returns-in_err-next_def-clause-err
returns-in_err-next_def-clause-err c =
    let p = err_from_is_err_and c.from_residual.result c.from_residual.ensures.1 in
    rw (p.1, p.2) (turn_stops Def (one symbol.Comma) (read_next (read_def (limits_of c.args.nesting))) refl (next_def_takes (limits_of c.args.nesting)) c.defs.more c.defs.parser _ _ _ (search rules) c.in_err-next_def.ensures.err c.defs.invariant)

pub returns-clause-ok : goal.returns-clause-ok
returns-clause-ok c = turns_end Def (one symbol.Comma) (read_next (read_def (limits_of c.args.nesting))) refl (next_def_takes (limits_of c.args.nesting)) c.defs.more c.defs.parser _ (search rules) c.defs.invariant
