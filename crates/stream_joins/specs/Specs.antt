-- What the joins are of, by what they are begun with.
use Rattle.std.specs.Prelude.{ℕ, Bool, List}
use Rattle.event_value.specs.declared.value.Value.{Value}
use Rattle.stream_joins.specs.Bound.{Bound}
use Rattle.stream_joins.specs.Reference.{Lookup}
use Rattle.stream_joins.specs.declared.bound_join.BoundSpec.{BoundSpec}
use Rattle.stream_joins.specs.declared.reference_join.ReferenceSpec.{ReferenceSpec}

-- whether the values of a left and of a right row pass by a test, at a time
abbrev pub Pairs : Type 0 → Type 0
Pairs M = M → List Value → List Value → ℕ → Bool

abbrev pub bound_of : {M : Type 0} → Pairs M → BoundSpec M → Bound
bound_of pairs spec = record {
  pairs = pairs spec.matches;
  low = spec.low;
  high = spec.high;
  outer = spec.outer;
  width = spec.width;
}

abbrev pub lookup_of : {M : Type 0} → Pairs M → ReferenceSpec M → Lookup
lookup_of pairs spec = record {
  pairs = pairs spec.matches;
  snapshots = spec.versions;
  outer = spec.outer;
  width = spec.width;
}
