use Rattle.std.proofs.Common.{◌≡◌, take}
use Rattle.std.specs.List.{flat_map}
use Rattle.std.specs.Ordering.{nat_cmp}
use Rattle.std.specs.Prelude.{filter}
use Rattle.row_groups.specs.Distinct.{distinct}
use Rattle.window_flow.specs.Groups.{is_within}
use Rattle.window_flow.specs.Sliding.{moments_of}
use Rattle.window_flow.proofs.sliding.moments_within.Given as goal

abbrev pub invariant-loop-row : goal.invariant-loop-row
invariant-loop-row l =
    l.moments.keys ≡ distinct nat_cmp (filter (is_within l.from l.upto) (flat_map (moments_of l.size) (take l.row-index l.rows)))
