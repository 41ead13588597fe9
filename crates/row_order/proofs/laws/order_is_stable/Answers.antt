use Rattle.row_order.proofs.InOrderLemmas.{in_order-is_stable, in_order-only}
use Rattle.row_order.proofs.laws.order_is_stable.Goals as goal

pub returns : goal.returns
returns g c = λ rows. record {
  stable = in_order-is_stable g.T.Timed.time_of rows;
  only = λ other stable. in_order-only g.T.Timed.time_of rows other stable;
}
