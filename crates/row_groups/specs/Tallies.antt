-- Running aggregates, row by row, for private clauses.
use Rattle.std.specs.Prelude.{ℕ, ◌+◌, Bool, true, nat_lt, ◌&&◌, if◌then◌else◌, ℤ, pos, ◌+ℤ◌, List, [], map, length, Option, Some, None}
use Rattle.std.specs.BTreeSet.{insert_key}
use Rattle.std.specs.List.{fold}
use Rattle.std.specs.Ordering.{is_lt, is_gt}
use Rattle.event_value.specs.Order.{value_order}
use Rattle.event_value.specs.declared.aggregate.AggKind.{AggKind}
use Rattle.event_value.specs.declared.aggregate.AggKind.TheVariants as kinds
use Rattle.event_value.specs.declared.aggregate.Aggregate.{Aggregate}
use Rattle.event_value.specs.declared.record.Stamped.{Stamped}
use Rattle.event_value.specs.declared.value.Value.{Value}
use Rattle.event_value.specs.declared.value.Value.TheVariants.{Null, Big, Fixed}
use Rattle.row_groups.specs.Aggregates.{count_value, is_value, is_wide, mean_value, most_numbers, sum_value}
use Rattle.row_groups.specs.Keys.{value_at}
use Rattle.row_groups.specs.declared.running.Running.{Running}
use Rattle.row_groups.specs.declared.running.Running.TheVariants.{Counted, Different, Summed, Mean, Least, Greatest}
use Rattle.row_groups.specs.declared.sum.Sum.{Sum}
use Rattle.row_groups.specs.declared.sum.Sum.TheVariants.{Empty, Whole, Decimal, Unfit}
use Rattle.row_groups.specs.declared.sum.Total.{Total}
use Rattle.row_groups.specs.declared.tally.Tally.{Tally}
use Rattle.row_groups.specs.declared.tally.Tally.TheVariants.{Rows, Column, Nothing}

-- one more; the number stands still at the greatest
abbrev pub one_more : ℕ → ℕ
one_more n = if nat_lt n most_numbers then n + 1 else n

-- a total with one number more, where there are not too many and 128 bits hold it
abbrev pub total_with : Total → ℤ → Option Total
total_with t n =
    if nat_lt t.count most_numbers && is_wide (t.sum +ℤ n)
    then Some (record { count = t.count + 1; sum = t.sum +ℤ n })
    else None

abbrev pub fitting : (Total → Sum) → Option Total → Sum
fitting kind None = Unfit
fitting kind (Some t) = kind t

abbrev pub no_numbers : Total
no_numbers = record { count = 0; sum = pos 0 }

-- a sum with one value more
abbrev pub sum_with : Sum → Value → Sum
sum_with Empty (Big n) = fitting Whole (total_with no_numbers n)
sum_with Empty (Fixed m) = fitting Decimal (total_with no_numbers m)
sum_with (Whole t) (Big n) = fitting Whole (total_with t n)
sum_with (Decimal t) (Fixed m) = fitting Decimal (total_with t m)
sum_with sum value = Unfit

-- whether a value is below the least so far, where there is one
abbrev pub is_lesser : Value → Value → Bool
is_lesser value Null = true
is_lesser value best = is_lt (value_order value best)

-- whether a value is above the greatest so far, where there is one
abbrev pub is_greater : Value → Value → Bool
is_greater value Null = true
is_greater value best = is_gt (value_order value best)

abbrev pub lesser : Value → Value → Value
lesser best value = if is_lesser value best then value else best

abbrev pub greater : Value → Value → Value
greater best value = if is_greater value best then value else best

-- an aggregate with one value more
abbrev pub running_with : Running → Value → Running
running_with (Counted n) value = Counted (one_more n)
running_with (Different values) value = Different (insert_key value_order values value)
running_with (Summed sum) value = Summed (sum_with sum value)
running_with (Mean sum) value = Mean (sum_with sum value)
running_with (Least best) value = Least (lesser best value)
running_with (Greatest best) value = Greatest (greater best value)

-- an aggregate of no values
abbrev pub running_start : AggKind → Running
running_start kinds.Count = Counted 0
running_start kinds.CountDistinct = Different []
running_start kinds.Sum = Summed Empty
running_start kinds.Avg = Mean Empty
running_start kinds.Min = Least Null
running_start kinds.Max = Greatest Null

-- what an aggregate has come to
abbrev pub running_value : Running → Value
running_value (Counted n) = count_value n
running_value (Different values) = count_value (length values)
running_value (Summed sum) = sum_value sum
running_value (Mean sum) = mean_value sum
running_value (Least best) = best
running_value (Greatest best) = best

abbrev pub tally_start_by : Option ℕ → AggKind → Tally
tally_start_by None kinds.Count = Rows 0
tally_start_by None kind = Nothing (running_start kind)
tally_start_by (Some i) kind = Column i (running_start kind)

-- an aggregate of no rows
abbrev pub tally_start : Aggregate → Tally
tally_start aggregate = tally_start_by aggregate.column aggregate.kind

-- an aggregate with one row more
abbrev pub tally_with : Stamped → Tally → Tally
tally_with row (Rows n) = Rows (one_more n)
tally_with row (Column i running) =
    if is_value (value_at i row.values)
    then Column i (running_with running (value_at i row.values))
    else Column i running
tally_with row (Nothing running) = Nothing running

abbrev pub tally_value : Tally → Value
tally_value (Rows n) = count_value n
tally_value (Column i running) = running_value running
tally_value (Nothing running) = running_value running

-- aggregates of no rows
abbrev pub tallies_start : List Aggregate → List Tally
tallies_start aggregates = map tally_start aggregates

-- aggregates with one row more
abbrev pub tallies_with : List Tally → Stamped → List Tally
tallies_with tallies row = map (tally_with row) tallies

-- the running aggregates of rows
abbrev pub tallies_of : List Aggregate → List Stamped → List Tally
tallies_of aggregates rows = fold tallies_with (tallies_start aggregates) rows

abbrev pub tally_values : List Tally → List Value
tally_values tallies = map tally_value tallies
