use Rattle.std.proofs.Common.{◌≡◌, ◌∷◌, ◌++◌, drop}
use Rattle.value_text.specs.Printed.{fraction_digits, places_behind_point}
use Rattle.value_text.proofs.print_value.push_fraction.Given as goal

-- what is printed, and what is still to come
abbrev pub invariant-loop-place : goal.invariant-loop-place
invariant-loop-place l =
    l.out ++ fraction_digits (drop l.place-index places_behind_point) l.rest ≡ l.fn.out ++ 46 ∷ fraction_digits places_behind_point l.millionths
