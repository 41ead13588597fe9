-- The aggregates of the rows of a group.
use Rattle.std.specs.Prelude.{ℕ, ◌-◌, ◌^◌, Bool, true, false, ◌&&◌, ◌==◌, nat_le, if◌then◌else◌, ℤ, pos, negsuc, ◌+ℤ◌, ◌*ℤ◌, int_div, int_le, List, [], ◌∷◌, filter, map, length, Option, Some, None}
use Rattle.std.specs.List.{list_all}
use Rattle.value_text.specs.Numbers.{whole_value, fixed_value}
use Rattle.event_value.specs.Order.{value_order}
use Rattle.value_text.specs.Printed.{million}
use Rattle.event_value.specs.declared.aggregate.AggKind.{AggKind}
use Rattle.event_value.specs.declared.aggregate.AggKind.TheVariants as kinds
use Rattle.event_value.specs.declared.aggregate.AggKind.TheVariants.{Count, CountDistinct, Avg, Min, Max}
use Rattle.event_value.specs.declared.aggregate.Aggregate.{Aggregate}
use Rattle.event_value.specs.declared.record.Stamped.{Stamped}
use Rattle.event_value.specs.declared.value.Value.{Value}
use Rattle.event_value.specs.declared.value.Value.TheVariants.{Null, Big, Fixed}
use Rattle.row_groups.specs.Distinct.{distinct}
use Rattle.row_groups.specs.declared.sum.Sum.{Sum}
use Rattle.row_groups.specs.declared.sum.Sum.TheVariants.{Empty, Whole, Decimal, Unfit}
use Rattle.row_groups.specs.declared.sum.Total.{Total}
use Rattle.row_groups.specs.Keys.{value_at}

-- whether there is a value
abbrev pub is_value : Value → Bool
is_value Null = false
is_value value = true

-- the values of a column, in the order of the rows, without Null
abbrev pub column_values : ℕ → List Stamped → List Value
column_values i rows = filter is_value (map (λ row. value_at i row.values) rows)

-- so many
abbrev pub count_value : ℕ → Value
count_value n = whole_value (pos n)

-- the different values in order
abbrev pub different : List Value → List Value
different values = distinct value_order values

-- the last of some values, Null where there is none
abbrev pub last_value : List Value → Value
last_value [] = Null
last_value (v ∷ []) = v
last_value (v ∷ w ∷ values) = last_value (w ∷ values)

abbrev pub is_whole : Value → Bool
is_whole (Big n) = true
is_whole value = false

abbrev pub is_fixed : Value → Bool
is_fixed (Fixed m) = true
is_fixed value = false

-- the number that a value is, a decimal one in millionths
abbrev pub number_of : Value → ℤ
number_of (Big n) = n
number_of (Fixed m) = m
number_of value = pos 0

-- whether 128 bits hold a number
abbrev pub is_wide : ℤ → Bool
is_wide n = int_le (negsuc (2 ^ 127 - 1)) n && int_le n (pos (2 ^ 127 - 1))

-- the sum from the first number on, none where 128 bits don't hold a sum on the way
abbrev pub exact_sum_from : ℤ → List ℤ → Option ℤ
exact_sum_from total [] = Some total
exact_sum_from total (n ∷ ns) = if is_wide (total +ℤ n) then exact_sum_from (total +ℤ n) ns else None

abbrev pub total_or_unfit : (Total → Sum) → ℕ → Option ℤ → Sum
total_or_unfit kind count None = Unfit
total_or_unfit kind count (Some sum) = kind (record { count = count; sum = sum })

-- how many numbers are added up at most
abbrev pub most_numbers : ℕ
most_numbers = 2 ^ 64 - 1

-- the sum of some numbers of one kind, where there are not too many and 128 bits hold it
abbrev pub total_of : (Total → Sum) → List Value → Sum
total_of kind values =
    if nat_le (length values) most_numbers
    then total_or_unfit kind (length values) (exact_sum_from (pos 0) (map number_of values))
    else Unfit

-- the sum of values: whole ones by themselves, and decimal ones by themselves
abbrev pub sum_of : List Value → Sum
sum_of [] = Empty
sum_of (Big n ∷ values) = if list_all is_whole values then total_of Whole (Big n ∷ values) else Unfit
sum_of (Fixed m ∷ values) =
    if list_all is_fixed values then total_of Decimal (Fixed m ∷ values) else Unfit
sum_of (value ∷ values) = Unfit

-- the sum as a value, Null where it doesn't fit
abbrev pub sum_value : Sum → Value
sum_value Empty = Null
sum_value (Whole t) = whole_value t.sum
sum_value (Decimal t) = fixed_value t.sum
sum_value Unfit = Null

-- the quotient in millionths toward zero, Null where it doesn't fit
abbrev pub mean_of : ℤ → ℕ → Value
mean_of sum count = if count == 0 then Null else fixed_value (int_div sum (pos count))

-- the mean
abbrev pub mean_value : Sum → Value
mean_value Empty = Null
mean_value (Whole t) = mean_of (t.sum *ℤ pos million) t.count
mean_value (Decimal t) = mean_of t.sum t.count
mean_value Unfit = Null

-- an aggregate of values
abbrev pub aggregate_of : AggKind → List Value → Value
aggregate_of Count values = count_value (length values)
aggregate_of CountDistinct values = count_value (length (different values))
aggregate_of kinds.Sum values = sum_value (sum_of values)
aggregate_of Avg values = mean_value (sum_of values)
aggregate_of Min values = value_at 0 (different values)
aggregate_of Max values = last_value (different values)

-- COUNT without a column counts the rows; each other aggregate looks at the values of its column,
-- and has none without a column
abbrev pub aggregate_by : Option ℕ → AggKind → List Stamped → Value
aggregate_by None Count rows = count_value (length rows)
aggregate_by None kind rows = aggregate_of kind []
aggregate_by (Some i) kind rows = aggregate_of kind (column_values i rows)

abbrev pub aggregate_value : List Stamped → Aggregate → Value
aggregate_value rows aggregate = aggregate_by aggregate.column aggregate.kind rows

-- the aggregates of the rows of a group
abbrev pub aggregate_values : List Aggregate → List Stamped → List Value
aggregate_values aggregates rows = map (aggregate_value rows) aggregates
