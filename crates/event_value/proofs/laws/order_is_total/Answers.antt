use Rattle.event_value.proofs.OrderLemmas.{value_order-total, value_order-exact}
use Rattle.event_value.proofs.laws.order_is_total.Goals as goal

pub returns : goal.returns
returns c = record { total = value_order-total; exact = value_order-exact }
