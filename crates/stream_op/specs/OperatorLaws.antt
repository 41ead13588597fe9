-- Filter, project and union work at each time alone.
use Rattle.std.specs.Prelude.{Bool, List, Some}
use Rattle.event_value.specs.declared.record.Stamped.{Stamped}
use Rattle.event_value.specs.declared.value.Value.{Value}
use Rattle.row_order.proofs.ListLemmas.{filter-map, filter-swap}
use Rattle.row_order.proofs.MergeLemmas.{IsInOrder-merge, filter-merge}
use Rattle.row_order.proofs.StretchLemmas.{IsInOrder-filter, IsInOrder-map}
use Rattle.std.proofs.Common.{refl}
use Rattle.stream_op.specs.Laws.{StreamLaws}
use Rattle.stream_op.specs.Operators.{filtered, projected, united, with_values}
use Rattle.stream_op.specs.Rows.{time_of}
use Rattle.stream_op.specs.Timewise.{IsTimewise}
use Rattle.stream_op.specs.TimewiseLaws.{IsTimewise-laws}

pub filtered-timewise : {T : Type 0} (passes : T → Stamped → Bool) (test : T) → IsTimewise (filtered passes test)
filtered-timewise passes test = record {
  at_times_alone = λ times left right h k. filter-swap _ (passes test) left;
  in_order = λ left right h k. IsInOrder-filter time_of (passes test) left h;
}

pub projected-timewise : {B : Type 0} (built : B → Stamped → List Value) (build : B) → IsTimewise (projected built build)
projected-timewise built build = record {
  at_times_alone = λ times left right h k. filter-map (λ (row : Stamped). times row.time) (with_values built build) left;
  in_order = λ left right h k. IsInOrder-map time_of time_of (with_values built build) (λ row. refl) left h;
}

pub united-timewise : (spec : Unit {0}) → IsTimewise (united spec)
united-timewise spec = record {
  at_times_alone = λ times left right h k. filter-merge time_of (λ (row : Stamped). times row.time) left right h k;
  in_order = λ left right h k. IsInOrder-merge time_of left right h k;
}

pub filtered-laws : {T : Type 0} (passes : T → Stamped → Bool)
    → StreamLaws (λ (test : T). Unit {0}) (filtered passes) (λ test. Some 0)
filtered-laws passes = IsTimewise-laws (λ test. Unit {0}) (filtered-timewise passes)

pub projected-laws : {B : Type 0} (built : B → Stamped → List Value)
    → StreamLaws (λ (build : B). Unit {0}) (projected built) (λ build. Some 0)
projected-laws built = IsTimewise-laws (λ build. Unit {0}) (projected-timewise built)

pub united-laws : StreamLaws (λ (spec : Unit {0}). Unit {0}) united (λ spec. Some 0)
united-laws = IsTimewise-laws (λ spec. Unit {0}) united-timewise
