use Rattle.std.proofs.Common.{length}
use Rattle.query_grammar.specs.Queries.{limits_of}
use Rattle.query_grammar.specs.Reading.{read_closeds}
use Rattle.query_parse.proofs.StmtLemmas.{SoFar}
use Rattle.query_parse.proofs.statements.more_stmts.Given as goal

abbrev pub invariant-closeds : goal.invariant-closeds
invariant-closeds l =
    SoFar (limits_of l.fn.nesting) l.fn.before l.more l.last l.parser (read_closeds (limits_of l.fn.nesting) l.fn.parser)

abbrev pub decreases-closeds : goal.decreases-closeds
decreases-closeds l = length l.parser
