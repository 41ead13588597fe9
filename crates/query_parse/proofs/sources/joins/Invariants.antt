use Rattle.std.proofs.Common.{◌≡◌, length}
use Rattle.grammar_rules.proofs.Turns.{joined}
use Rattle.query_grammar.specs.Queries.{limits_of}
use Rattle.query_grammar.specs.Reading.{read_joins}
use Rattle.query_parse.proofs.sources.joins.Given as goal

-- what was read so far and what is still read are all
abbrev pub invariant-joins : goal.invariant-joins
invariant-joins l = joined l.joins (read_joins (limits_of l.fn.nesting) l.parser) ≡ read_joins (limits_of l.fn.nesting) l.fn.parser

abbrev pub decreases-joins : goal.decreases-joins
decreases-joins l = length l.parser
