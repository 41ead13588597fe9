use Rattle.std.proofs.Common.{◌≡◌, length}
use Rattle.grammar_rules.proofs.Turns.{joined}
use Rattle.query_grammar.specs.Queries.{limits_of}
use Rattle.query_grammar.specs.Reading.{read_others, read_item}
use Rattle.query_parse.proofs.selects.more_items.Given as goal

-- what was read so far and what is still read are all
abbrev pub invariant-items : goal.invariant-items
invariant-items l = joined l.more (read_others (read_item (limits_of l.fn.nesting)) l.parser) ≡ read_others (read_item (limits_of l.fn.nesting)) l.fn.parser

abbrev pub decreases-items : goal.decreases-items
decreases-items l = length l.parser
