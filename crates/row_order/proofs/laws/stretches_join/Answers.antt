use Rattle.row_order.proofs.StretchLemmas.{rows_below-append-rows_from, rows_below-append-rows_between}
use Rattle.row_order.proofs.laws.stretches_join.Goals as goal

pub returns : goal.returns
returns g c = λ rows. record {
  whole = λ w. rows_below-append-rows_from g.T.Timed.time_of w rows;
  below = λ v w. rows_below-append-rows_between g.T.Timed.time_of v w rows;
}
