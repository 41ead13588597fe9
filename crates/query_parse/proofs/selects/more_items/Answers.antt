use Rattle.std.proofs.Common.{rules, refl}
use Rattle.std.proofs.lemmas.Result.{err_from_is_err_and}
use Rattle.grammar_rules.proofs.Turns.{turn_on, turn_stops, turns_end}
use Rattle.query_tokens.specs.declared.symbol.Symbol.TheVariants as symbol
use Rattle.query_tree.specs.declared.select.Item.{Item}
use Rattle.query_grammar.specs.Lists.{one}
use Rattle.query_grammar.specs.Queries.{limits_of}
use Rattle.query_grammar.specs.Reading.{read_next, read_item}
use Rattle.query_grammar.proofs.Takes.{next_item_takes}
use Rattle.query_parse.proofs.selects.more_items.Goals as goal

pub items-smaller : goal.items-smaller
items-smaller c = (next_item_takes (limits_of c.args.nesting)).shorter c.items.parser _ _ c.in_ok-next_item.ensures.ok

pub items-preserved : goal.items-preserved
items-preserved c = turn_on Item (one symbol.Comma) (read_next (read_item (limits_of c.args.nesting))) refl (next_item_takes (limits_of c.args.nesting)) c.items.more _ c.items.parser _ _ _ (search rules) c.in_ok-next_item.ensures.ok c.in_ok-push.ensures.ok c.items.invariant

pub returns-in_err-next_item-clause-err : goal.returns-in_err-next_item-clause-err
returns-in_err-next_item-clause-err c =
    let p = err_from_is_err_and c.from_residual.result c.from_residual.ensures.1 in
    rw (p.1, p.2) (turn_stops Item (one symbol.Comma) (read_next (read_item (limits_of c.args.nesting))) refl (next_item_takes (limits_of c.args.nesting)) c.items.more c.items.parser _ _ _ (search rules) c.in_err-next_item.ensures.err c.items.invariant)

pub returns-clause-ok : goal.returns-clause-ok
returns-clause-ok c = turns_end Item (one symbol.Comma) (read_next (read_item (limits_of c.args.nesting))) refl (next_item_takes (limits_of c.args.nesting)) c.items.more c.items.parser _ (search rules) c.items.invariant
