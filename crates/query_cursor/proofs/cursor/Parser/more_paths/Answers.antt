use Rattle.std.proofs.Common.{rules, refl}
use Rattle.std.proofs.lemmas.Result.{err_from_is_err_and}
use Rattle.grammar_rules.proofs.Turns.{turn_on, turn_stops, turns_end}
use Rattle.query_tokens.specs.declared.symbol.Symbol.TheVariants as symbol
use Rattle.query_tree.specs.declared.name.Path.{Path}
use Rattle.query_grammar.specs.Lists.{one}
use Rattle.query_grammar.specs.Reading.{read_next, read_path}
use Rattle.query_grammar.proofs.Takes.{next_path_takes}
use Rattle.query_cursor.proofs.cursor.Parser.more_paths.Goals as goal

pub paths-smaller : goal.paths-smaller
paths-smaller c = next_path_takes.shorter c.paths.self _ _ c.in_ok-next_path.ensures.ok

pub paths-preserved : goal.paths-preserved
paths-preserved c = turn_on Path (one symbol.Comma) (read_next read_path) refl next_path_takes c.paths.more _ c.paths.self _ _ _ (search rules) c.in_ok-next_path.ensures.ok c.in_ok-push.ensures.ok c.paths.invariant

pub returns-in_err-next_path-clause-err : goal.returns-in_err-next_path-clause-err
returns-in_err-next_path-clause-err c =
    let p = err_from_is_err_and c.from_residual.result c.from_residual.ensures.1 in
    rw (p.1, p.2) (turn_stops Path (one symbol.Comma) (read_next read_path) refl next_path_takes c.paths.more c.paths.self _ _ _ (search rules) c.in_err-next_path.ensures.err c.paths.invariant)

pub returns-clause-ok : goal.returns-clause-ok
returns-clause-ok c = turns_end Path (one symbol.Comma) (read_next read_path) refl next_path_takes c.paths.more c.paths.self _ (search rules) c.paths.invariant
