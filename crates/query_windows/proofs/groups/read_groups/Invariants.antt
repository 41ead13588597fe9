use Rattle.std.proofs.Common.{◌≡◌, drop}
use Rattle.query_windows.specs.Groups as spec
use Rattle.query_windows.proofs.groups.read_groups.Given as goal

abbrev pub invariant-loop-group : goal.invariant-loop-group
invariant-loop-group l =
    spec.with_groups l.scope l.grouping (drop l.group-index l.group-items) ≡
    spec.with_groups l.scope l.initial.grouping l.group-items
