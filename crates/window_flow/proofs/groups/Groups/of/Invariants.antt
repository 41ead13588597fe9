use Rattle.std.proofs.Common.{◌≡◌, take}
use Rattle.window_flow.specs.Groups.{groups_of}
use Rattle.window_flow.proofs.groups.Groups.of.Given as goal

abbrev pub invariant-loop-row : goal.invariant-loop-row
invariant-loop-row l = l.groups ≡ groups_of l.others l.columns (take l.row-index l.rows)
