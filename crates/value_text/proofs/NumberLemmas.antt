-- The values of digits.
use Rattle.std.proofs.Common.{◌≡◌, ◌≤◌, ◌<◌, ◌+◌, ◌*◌, ℕ, suc, List, [], ◌∷◌, Option, None, length, get_or, drop, drop-cons, ap, sym, ◌∙◌, arith}
use Rattle.std.proofs.lemmas.Bool.Decides.{nat_tests}
use Rattle.tick_time.specs.MomentReading.{digit_value}
use Rattle.value_text.specs.Numbers.{bounded, value_from}

value_from-grows : (value : ℕ) (digits : List ℕ) → value ≤ value_from value digits
value_from-grows value [] = omega arith
value_from-grows value (b ∷ bs) = let h = value_from-grows (10 * value + digit_value b) bs in omega arith

bounded-grows : (value more : ℕ) → value ≤ more → bounded value ≡ None → bounded more ≡ None
bounded-grows value more h e = grind (arith, nat_tests)

-- a value above the limit stays above it
pub stays_above : (value : ℕ) (digits : List ℕ) → bounded value ≡ None → bounded (value_from value digits) ≡ None
stays_above value digits e = bounded-grows value (value_from value digits) (value_from-grows value digits) e

-- a digit that lifts the value above the limit
pub stuck_at : (value index : ℕ) (digits : List ℕ) (whole : Option ℕ) → index < length digits → bounded (10 * value + digit_value (get_or digits index 0)) ≡ None
    → bounded (value_from value (drop index digits)) ≡ whole → whole ≡ None
stuck_at value index digits whole l e w =
    sym w ∙ ap (λ (ds : List ℕ). bounded (value_from value ds)) (drop-cons digits index 0 l)
    ∙ stays_above (10 * value + digit_value (get_or digits index 0)) (drop (suc index) digits) e
