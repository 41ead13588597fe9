use Rattle.std.proofs.Common.{◌≡◌, length}
use Rattle.grammar_rules.proofs.Turns.{joined}
use Rattle.query_grammar.specs.Queries.{limits_of}
use Rattle.query_grammar.specs.Reading.{read_others, read_group}
use Rattle.query_parse.proofs.groups.more_groups.Given as goal

-- what was read so far and what is still read are all
abbrev pub invariant-groups : goal.invariant-groups
invariant-groups l = joined l.more (read_others (read_group (limits_of l.fn.nesting)) l.parser) ≡ read_others (read_group (limits_of l.fn.nesting)) l.fn.parser

abbrev pub decreases-groups : goal.decreases-groups
decreases-groups l = length l.parser
