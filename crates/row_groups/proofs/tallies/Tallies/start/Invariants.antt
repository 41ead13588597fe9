use Rattle.std.proofs.Common.{◌≡◌, take, map}
use Rattle.row_groups.specs.Tallies.{tally_start}
use Rattle.row_groups.proofs.tallies.Tallies.start.Given as goal

abbrev pub invariant-loop-aggregate : goal.invariant-loop-aggregate
invariant-loop-aggregate l = l.tallies.items ≡ map tally_start (take l.aggregate-index l.aggregates)
