-- When two records belong to one substream.
use Rattle.std.specs.Prelude.{Bool, List}
use Rattle.std.specs.Ordering.{is_eq}
use Rattle.std.specs.Cmp.Lexicographic.{slice_cmp}
use Rattle.event_value.specs.Order.{value_order}
use Rattle.event_value.specs.declared.value.Value.{Value}

-- the order of values calls both keys equal
abbrev pub is_same_substream : List Value → List Value → Bool
is_same_substream a b = is_eq (slice_cmp value_order a b)
