use Rattle.std.proofs.Common.{◌≡◌, ◌++◌, take, map}
use Rattle.row_groups.specs.Tallies.{tally_value}
use Rattle.row_groups.proofs.tallies.Tallies.push_values.Given as goal

abbrev pub invariant-loop-tally : goal.invariant-loop-tally
invariant-loop-tally l = l.values ≡ l.initial.values ++ map tally_value (take l.tally-index l.tally-items)
