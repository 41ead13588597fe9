-- The aggregates that are carried from row to row are those of the list of the rows.
use Rattle.std.proofs.Common.{◌≡◌, ℕ, ◌+◌, true, false, cond, List, [], ◌∷◌, map, length, refl, ap, ◌∙◌, arith}
use Rattle.std.specs.BTreeSet.{insert_key}
use Rattle.std.specs.List.{fold}
use Rattle.std.specs.Prelude.{Option, Some, None}
use Rattle.event_value.specs.Order.{value_order}
use Rattle.event_value.specs.declared.aggregate.AggKind.{AggKind}
use Rattle.event_value.specs.declared.aggregate.AggKind.TheVariants as kinds
use Rattle.event_value.specs.declared.aggregate.Aggregate.{Aggregate}
use Rattle.event_value.specs.declared.record.Stamped.{Stamped}
use Rattle.event_value.specs.declared.value.Value.{Value}
use Rattle.row_order.proofs.ListLemmas.{filter-passes}
use Rattle.row_groups.specs.Aggregates.{aggregate_by, aggregate_of, aggregate_values, column_values, count_value, is_value, mean_value, sum_value}
use Rattle.row_groups.specs.Distinct.{with_each}
use Rattle.row_groups.specs.Keys.{value_at}
use Rattle.row_groups.specs.Tallies.{greater, lesser, running_start, running_value, running_with, sum_with, tallies_of, tallies_with, tally_start, tally_start_by, tally_value, tally_values, tally_with}
use Rattle.row_groups.specs.declared.running.Running.{Running}
use Rattle.row_groups.specs.declared.running.Running.TheVariants.{Counted, Different, Summed, Mean, Least, Greatest}
use Rattle.row_groups.specs.declared.sum.Sum.{Sum}
use Rattle.row_groups.specs.declared.tally.Tally.{Tally}
use Rattle.row_groups.specs.declared.tally.Tally.TheVariants.{Rows, Column, Nothing}
use Rattle.row_groups.proofs.BestLemmas.{AreValues, fold-greater, fold-lesser}
use Rattle.row_groups.proofs.NumberLemmas.{capped, count_value-capped, one_more-capped}
use Rattle.row_groups.proofs.SumLemmas.{fold-sum_of}

-- ---- of values

fold-Counted : (n : ℕ) (values : List Value) → fold running_with (Counted (capped n)) values ≡ Counted (capped (n + length values))
fold-Counted n [] = ap (λ (k : ℕ). Counted (capped k)) (omega arith)
fold-Counted n (value ∷ values) =
    ap (λ (k : ℕ). fold running_with (Counted k) values) (one_more-capped n)
    ∙ fold-Counted (n + 1) values
    ∙ ap (λ (k : ℕ). Counted (capped k)) (omega arith)

fold-Different : (places values : List Value) → fold running_with (Different places) values ≡ Different (with_each value_order places values)
fold-Different places [] = refl
fold-Different places (value ∷ values) = fold-Different (insert_key value_order places value) values

fold-Summed : (sum : Sum) (values : List Value) → fold running_with (Summed sum) values ≡ Summed (fold sum_with sum values)
fold-Summed sum [] = refl
fold-Summed sum (value ∷ values) = fold-Summed (sum_with sum value) values

fold-Mean : (sum : Sum) (values : List Value) → fold running_with (Mean sum) values ≡ Mean (fold sum_with sum values)
fold-Mean sum [] = refl
fold-Mean sum (value ∷ values) = fold-Mean (sum_with sum value) values

fold-Least : (best : Value) (values : List Value) → fold running_with (Least best) values ≡ Least (fold lesser best values)
fold-Least best [] = refl
fold-Least best (value ∷ values) = fold-Least (lesser best value) values

fold-Greatest : (best : Value) (values : List Value) → fold running_with (Greatest best) values ≡ Greatest (fold greater best values)
fold-Greatest best [] = refl
fold-Greatest best (value ∷ values) = fold-Greatest (greater best value) values

zero-capped : 0 ≡ capped 0
zero-capped = refl

running_value-fold : (kind : AggKind) (values : List Value) → AreValues values → running_value (fold running_with (running_start kind) values) ≡ aggregate_of kind values
running_value-fold kinds.Count values h =
    ap (λ (n : ℕ). running_value (fold running_with (Counted n) values)) zero-capped
    ∙ ap running_value (fold-Counted 0 values)
    ∙ count_value-capped (0 + length values)
    ∙ ap count_value (omega arith)
running_value-fold kinds.CountDistinct values h = ap running_value (fold-Different [] values)
running_value-fold kinds.Sum values h = ap running_value (fold-Summed _ values) ∙ ap sum_value (fold-sum_of values)
running_value-fold kinds.Avg values h = ap running_value (fold-Mean _ values) ∙ ap mean_value (fold-sum_of values)
running_value-fold kinds.Min values h = ap running_value (fold-Least _ values) ∙ fold-lesser values h
running_value-fold kinds.Max values h = ap running_value (fold-Greatest _ values) ∙ fold-greater values h

-- ---- of rows

abbrev with_row : Tally → Stamped → Tally
with_row tally row = tally_with row tally

fold-Rows : (n : ℕ) (rows : List Stamped) → fold with_row (Rows (capped n)) rows ≡ Rows (capped (n + length rows))
fold-Rows n [] = ap (λ (k : ℕ). Rows (capped k)) (omega arith)
fold-Rows n (row ∷ rows) =
    ap (λ (k : ℕ). fold with_row (Rows k) rows) (one_more-capped n)
    ∙ fold-Rows (n + 1) rows
    ∙ ap (λ (k : ℕ). Rows (capped k)) (omega arith)

fold-Nothing : (running : Running) (rows : List Stamped) → fold with_row (Nothing running) rows ≡ Nothing running
fold-Nothing running [] = refl
fold-Nothing running (row ∷ rows) = fold-Nothing running rows

fold-Column : (i : ℕ) (running : Running) (rows : List Stamped) → fold with_row (Column i running) rows ≡ Column i (fold running_with running (column_values i rows))
fold-Column i running [] = refl
fold-Column i running (row ∷ rows) =
    elim (is_value (value_at i row.values)) as (λ b. fold with_row (cond b (Column i (running_with running (value_at i row.values))) (Column i running)) rows
    ≡ Column i (fold running_with running (cond b (value_at i row.values ∷ column_values i rows) (column_values i rows)))) [
      | true ↦ fold-Column i (running_with running (value_at i row.values)) rows
      | false ↦ fold-Column i running rows
    ]

tally_value-fold : (column : Option ℕ) (kind : AggKind) (rows : List Stamped)
    → tally_value (fold with_row (tally_start_by column kind) rows) ≡ aggregate_by column kind rows
tally_value-fold None kinds.Count rows =
    ap (λ (n : ℕ). tally_value (fold with_row (Rows n) rows)) zero-capped
    ∙ ap tally_value (fold-Rows 0 rows)
    ∙ count_value-capped (0 + length rows)
    ∙ ap count_value (omega arith)
tally_value-fold None kinds.CountDistinct rows = ap tally_value (fold-Nothing _ rows)
tally_value-fold None kinds.Sum rows = ap tally_value (fold-Nothing _ rows)
tally_value-fold None kinds.Avg rows = ap tally_value (fold-Nothing _ rows)
tally_value-fold None kinds.Min rows = ap tally_value (fold-Nothing _ rows)
tally_value-fold None kinds.Max rows = ap tally_value (fold-Nothing _ rows)
tally_value-fold (Some i) kind rows =
    ap tally_value (fold-Column i (running_start kind) rows)
    ∙ running_value-fold kind (column_values i rows) (filter-passes is_value (map (λ (row : Stamped). value_at i row.values) rows))

-- ---- of all aggregates

map-map : {X Y Z : Type 0} (g : Y → Z) (f : X → Y) (xs : List X) → map g (map f xs) ≡ map (λ x. g (f x)) xs
map-map g f [] = refl
map-map g f (x ∷ xs) = ap (λ rest. g (f x) ∷ rest) (map-map g f xs)

fold-map : (f : Aggregate → Tally) (aggregates : List Aggregate) (rows : List Stamped)
    → fold tallies_with (map f aggregates) rows ≡ map (λ aggregate. fold with_row (f aggregate) rows) aggregates
fold-map f aggregates [] = refl
fold-map f aggregates (row ∷ rows) =
    ap (λ (tallies : List Tally). fold tallies_with tallies rows) (map-map (tally_with row) f aggregates)
    ∙ fold-map (λ aggregate. tally_with row (f aggregate)) aggregates rows

pub tally_values-tallies_of : (aggregates : List Aggregate) (rows : List Stamped) → tally_values (tallies_of aggregates rows) ≡ aggregate_values aggregates rows
tally_values-tallies_of aggregates rows =
    ap tally_values (fold-map tally_start aggregates rows)
    ∙ map-map tally_value (λ aggregate. fold with_row (tally_start aggregate) rows) aggregates
    ∙ ap (λ (f : Aggregate → Value). map f aggregates) (λ i aggregate. tally_value-fold aggregate.column aggregate.kind rows i)
