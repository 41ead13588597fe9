use Rattle.std.proofs.Common.{◌≡◌, length}
use Rattle.grammar_rules.proofs.Turns.{joined}
use Rattle.query_grammar.specs.Reading.{read_others, read_path}
use Rattle.query_cursor.proofs.cursor.Parser.more_paths.Given as goal

-- what was read so far and what is still read are all
abbrev pub invariant-paths : goal.invariant-paths
invariant-paths l = joined l.more (read_others read_path l.self) ≡ read_others read_path l.fn.self

abbrev pub decreases-paths : goal.decreases-paths
decreases-paths l = length l.self
