-- The columns of a row, and the key that its first columns are.
use Rattle.std.specs.Prelude.{ℕ, zero, suc, Bool, List, [], ◌∷◌, ◌++◌, get_or}
use Rattle.std.specs.Cmp.Lexicographic.{slice_cmp}
use Rattle.std.specs.Ordering.{is_eq}
use Rattle.std.specs.declared.cmp.Ordering.{Ordering}
use Rattle.event_value.specs.Order.{value_order}
use Rattle.event_value.specs.declared.value.Value.{Value}
use Rattle.event_value.specs.declared.value.Value.TheVariants.{Null}

-- the value of a column, Null where the row lacks it
abbrev pub value_at : ℕ → List Value → Value
value_at i values = get_or values i Null

-- the values of the first n columns
abbrev pub key_of : ℕ → List Value → List Value
key_of zero values = []
key_of (suc n) values = key_of n values ++ value_at n values ∷ []

-- keys by the first values that differ
abbrev pub key_order : List Value → List Value → Ordering
key_order = slice_cmp value_order

-- keys of equal values, Null equal to itself
abbrev pub is_same_key : List Value → List Value → Bool
is_same_key a b = is_eq (key_order a b)
