use Rattle.std.proofs.Common.{◌≡◌, ◌++◌, take, drop, map}
use Rattle.row_groups.specs.Tallies.{tally_with}
use Rattle.row_groups.proofs.tallies.Tallies.add.Given as goal

abbrev pub invariant-loop-tally : goal.invariant-loop-tally
invariant-loop-tally l =
    l.tally-items ≡ map (tally_with l.row) (take l.tally-index l.initial.tally-items) ++ drop l.tally-index l.initial.tally-items
