-- What holds of sums.
use Rattle.std.specs.Prelude.{◌≡◌, ◌+ℤ◌, ◌<◌, ◌^◌, true, ℤ, pos, List, length, Some}
use Rattle.std.specs.List.{AllByRecursion, fold}
use Rattle.value_text.specs.Numbers.{is_number}
use Rattle.row_groups.specs.Aggregates.{exact_sum_from}

-- fewer than 2^63 numbers of 64 bits have their sum, whatever the sums on the way
abbrev pub AreAddedExactly : List ℤ → Type 0
AreAddedExactly ns = AllByRecursion (λ n. is_number n ≡ true) ns → length ns < 2 ^ 63
    → exact_sum_from (pos 0) ns ≡ Some (fold ◌+ℤ◌ (pos 0) ns)
