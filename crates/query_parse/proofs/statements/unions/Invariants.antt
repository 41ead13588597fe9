use Rattle.std.proofs.Common.{◌≡◌, length}
use Rattle.grammar_rules.proofs.Turns.{joined}
use Rattle.query_grammar.specs.Queries.{limits_of}
use Rattle.query_grammar.specs.Reading.{read_unions}
use Rattle.query_parse.proofs.statements.unions.Given as goal

-- what was read so far and what is still read are all
abbrev pub invariant-unions : goal.invariant-unions
invariant-unions l = joined l.more (read_unions (limits_of l.fn.nesting) l.parser) ≡ read_unions (limits_of l.fn.nesting) l.fn.parser

abbrev pub decreases-unions : goal.decreases-unions
decreases-unions l = length l.parser
