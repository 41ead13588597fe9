use Rattle.std.proofs.Common.{◌≡◌, take}
use Rattle.std.specs.List.{flat_map}
use Rattle.stream_joins.specs.Reference.{looked_up}
use Rattle.stream_joins.specs.Specs.{lookup_of}
use Rattle.stream_joins.proofs.reference_join.ReferenceJoinStreamOp.advance.Given as goal

abbrev pub invariant-loop-row : goal.invariant-loop-row
invariant-loop-row g l = l.rows ≡ flat_map (looked_up (lookup_of g.M.Matches.pairs l.self.spec)) (take l.row-index l.left)
