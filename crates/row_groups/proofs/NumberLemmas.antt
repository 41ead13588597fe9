-- Counts that stand still, quotients, and numbers within limits.
use Rattle.std.proofs.Common.{◌≡◌, ℕ, ◌+◌, ◌*◌, ◌/◌, ◌%◌, ◌<◌, ◌≤◌, min, Bool, true, false, cond, refl, sym, ap, ◌∙◌, arith}
use Rattle.std.proofs.Common.{pos}
use Rattle.std.specs.Prelude.{nat_le}
use Rattle.std.proofs.Math.Nat.{add-mul-div_left, mod-add-div}
use Rattle.std.proofs.lemmas.Bool.Decides.{nat_tests}
use Rattle.value_text.specs.Numbers.{is_number}
use Rattle.event_value.specs.declared.value.Value.TheVariants.{Null, Big}
use Rattle.row_groups.specs.Aggregates.{count_value, most_numbers}
use Rattle.row_groups.specs.Tallies.{one_more}

abbrev pub capped : ℕ → ℕ
capped n = min n most_numbers

pub one_more-capped : (n : ℕ) → one_more (capped n) ≡ capped (n + 1)
one_more-capped n = grind (arith, nat_tests)

too_great : (n : ℕ) → most_numbers ≤ n → is_number (pos n) ≡ false
too_great n h = grind (arith, nat_tests)

-- a count that stands still prints as the count
pub count_value-capped : (n : ℕ) → count_value (capped n) ≡ count_value n
count_value-capped n = by_size (nat_le n most_numbers) refl
  where
    kept : nat_le n most_numbers ≡ true → capped n ≡ n
    kept e = grind (arith, nat_tests)

    large : nat_le n most_numbers ≡ false → most_numbers ≤ n
    large e = grind (arith, nat_tests)

    at_most : nat_le n most_numbers ≡ false → capped n ≡ most_numbers
    at_most e = grind (arith, nat_tests)

    by_size : (b : Bool) → nat_le n most_numbers ≡ b → count_value (capped n) ≡ count_value n
    by_size true e = ap count_value (kept e)
    by_size false e =
        ap count_value (at_most e)
        ∙ ap (λ b. cond b (Big (pos most_numbers)) Null) (too_great most_numbers (omega arith))
        ∙ sym (ap (λ b. cond b (Big (pos n)) Null) (too_great n (large e)))

-- a product's quotient, by the quotient and the remainder of one factor
pub quotient-split : (s c m : ℕ) → 0 < c → s / c * m + s % c * m / c ≡ s * m / c
quotient-split s c m h =
    sym (ap (λ x. x / c) parts ∙ add-mul-div_left (s % c * m) (s / c * m) h ∙ omega arith)
  where
    distributed : (a b n k : ℕ) → (a + n * b) * k ≡ a * k + n * (b * k)
    distributed a b n k = grind arith

    parts : s * m ≡ s % c * m + c * (s / c * m)
    parts = ap (λ x. x * m) (sym (mod-add-div s c)) ∙ distributed (s % c) (s / c) c m
