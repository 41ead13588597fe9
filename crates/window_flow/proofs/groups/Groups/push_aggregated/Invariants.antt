use Rattle.std.proofs.Common.{◌≡◌, ◌++◌, map}
use Rattle.window_flow.specs.Groups.{aggregated_by}
use Rattle.window_flow.proofs.groups.Groups.push_aggregated.Given as goal

abbrev pub invariant-loop-key : goal.invariant-loop-key
invariant-loop-key l =
    l.given ++ map (aggregated_by l.time l.aggregates) l.key-iterator
    ≡ l.initial.given ++ map (aggregated_by l.time l.aggregates) l.self
