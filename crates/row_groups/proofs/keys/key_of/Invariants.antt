use Rattle.std.proofs.Common.{◌≡◌}
use Rattle.row_groups.specs.Keys.{key_of}
use Rattle.row_groups.proofs.keys.key_of.Given as goal

abbrev pub invariant-loop-column : goal.invariant-loop-column
invariant-loop-column l = l.key ≡ key_of l.column l.values
