use Rattle.std.proofs.Common.{◌≡◌, length}
use Rattle.grammar_rules.proofs.Turns.{joined}
use Rattle.query_grammar.specs.Queries.{limits_of}
use Rattle.query_grammar.specs.Reading.{read_others, read_def}
use Rattle.query_parse.proofs.statements.more_defs.Given as goal

-- what was read so far and what is still read are all
abbrev pub invariant-defs : goal.invariant-defs
invariant-defs l = joined l.more (read_others (read_def (limits_of l.fn.nesting)) l.parser) ≡ read_others (read_def (limits_of l.fn.nesting)) l.fn.parser

abbrev pub decreases-defs : goal.decreases-defs
decreases-defs l = length l.parser
