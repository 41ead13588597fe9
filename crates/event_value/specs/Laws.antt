-- What holds of the order of values.
use Rattle.std.specs.Cmp.{IsTotalOrder}
use Rattle.std.specs.FinMap.{IsAntisymmetric}
use Rattle.event_value.specs.Order.{value_order}

-- it is a total order, and only equal values tie
pub record IsOrderOfValues : Type 0 where
  pub total : IsTotalOrder value_order
  pub exact : IsAntisymmetric value_order
