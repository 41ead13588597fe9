-- The order of keys is total, and only equal keys tie.
use Rattle.std.specs.Cmp.{IsTotalOrder}
use Rattle.std.specs.FinMap.{IsAntisymmetric, slice_cmp-IsAntisymmetric}
use Rattle.std.proofs.lemmas.Cmp.{lists_total}
use Rattle.event_value.proofs.OrderLemmas.{value_order-exact, value_order-total}
use Rattle.row_groups.specs.Keys.{key_order}

pub key_order-total : IsTotalOrder key_order
key_order-total = lists_total value_order-total

pub key_order-exact : IsAntisymmetric key_order
key_order-exact = slice_cmp-IsAntisymmetric value_order-exact
