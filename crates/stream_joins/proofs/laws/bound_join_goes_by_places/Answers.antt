use Rattle.std.proofs.Common.{◌∙◌}
use Rattle.std.specs.List.{flat_map}
use Rattle.row_order.proofs.InOrderLemmas.{IsInOrder-in_order, rows_at-in_order}
use Rattle.stream_joins.proofs.LawLemmas.{filter-flat_map}
use Rattle.stream_joins.specs.Bound.{rows_of}
use Rattle.stream_op.specs.Rows.{time_of}
use Rattle.stream_joins.proofs.laws.bound_join_goes_by_places.Goals as goal

pub returns : goal.returns
returns c = λ bound left right. record {
  ordered = IsInOrder-in_order time_of (flat_map (rows_of bound right) left);
  at_each_time = λ t. rows_at-in_order time_of t (flat_map (rows_of bound right) left) ∙ filter-flat_map _ (rows_of bound right) left;
}
