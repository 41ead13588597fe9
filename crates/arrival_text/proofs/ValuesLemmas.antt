-- The values of a record, column by column.
use Rattle.std.proofs.Common.{◌≡◌, List, [], ◌∷◌, ◌++◌, map, Result, Ok, Err, refl, ap}
use Rattle.event_value.specs.declared.record.Rule.{Rule}
use Rattle.event_value.specs.declared.value.Value.{Value}
use Rattle.arrival_text.specs.Items.{values_of, value_before}

-- these values, and then those of a record
abbrev pub values_behind : List Value → Result (List Value) Rule → Result (List Value) Rule
values_behind front (Ok values) = Ok (front ++ values)
values_behind front (Err rule) = Err rule

-- values are the same where the columns are looked up first
pub values_of-map : {A B : Type 0} (value : B → Result Value Rule) (place : A → B) (columns : List A)
    → values_of value (map place columns) ≡ values_of (λ column. value (place column)) columns
values_of-map value place [] = refl
values_of-map value place (column ∷ columns) = ap (value_before (value (place column))) (values_of-map value place columns)
