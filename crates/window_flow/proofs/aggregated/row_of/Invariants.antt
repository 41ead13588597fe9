use Rattle.std.proofs.Common.{◌≡◌, take}
use Rattle.row_groups.specs.Tallies.{tallies_of}
use Rattle.window_flow.proofs.aggregated.row_of.Given as goal

abbrev pub invariant-loop-row : goal.invariant-loop-row
invariant-loop-row l = l.tallies ≡ tallies_of l.aggregates (take l.row-index l.rows)
