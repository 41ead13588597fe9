use Rattle.std.proofs.Common.{◌≡◌, ◌++◌}
use Rattle.std.specs.Prelude.{replicate}
use Rattle.event_value.specs.declared.value.Value.TheVariants.{Null}
use Rattle.stream_joins.proofs.pairs.row_alone.Given as goal

abbrev pub invariant-loop : goal.invariant-loop
invariant-loop l = l.values ≡ l.left.values ++ replicate l.counter Null
