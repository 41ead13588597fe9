-- The digits of a number spell it, and digits are those of the number that they spell.
use Rattle.std.proofs.Common.{◌≡◌, ℕ, ◌+◌, ◌*◌, ◌<◌, true, List, length, get_or, take_while, sym, ◌∙◌, arith}
use Rattle.std.proofs.lemmas.Bool.{and_from, and_parts, lt-ltb, ltb-true, leb-true}
use Rattle.std.proofs.lemmas.Bool.Decides.{nat_tests}
use Rattle.std.proofs.lemmas.List.{get_or-take}
use Rattle.std.proofs.lemmas.List.Sums.{prefix_len_passes}
use Rattle.std.proofs.lemmas.List.Folds.{length-prefix_len}
use Rattle.std.specs.List.{prefix_len}
use Rattle.tick_time.specs.MomentText.{digit, seven_digits}
use Rattle.tick_time.specs.MomentReading.{is_digit, pair_value, is_pair_below, fraction_ticks}

pub is_digit-digit : (n place : ℕ) → is_digit (digit n place) ≡ true
is_digit-digit n place = grind (arith, nat_tests)

pub pair_value-two_digits : (n : ℕ) → n < 100 → pair_value (digit n 10) (digit n 1) ≡ n
pair_value-two_digits n h = omega arith

pub is_pair_below-two_digits : (limit n : ℕ) → n < limit → n < 100 → is_pair_below limit (digit n 10) (digit n 1) ≡ true
is_pair_below-two_digits limit n h k =
    and_from _ _ (and_from _ _ (is_digit-digit n 10) (is_digit-digit n 1)) (rw (pair_value-two_digits n k) (lt-ltb n limit h))

-- the two halves of a number with four digits
pub is_pair_below-four_digits : (n : ℕ) → is_pair_below 100 (digit n 1000) (digit n 100) ≡ true
is_pair_below-four_digits n =
    and_from _ _ (and_from _ _ (is_digit-digit n 1000) (is_digit-digit n 100)) (lt-ltb _ 100 (omega arith))

pub is_pair_below-last_digits : (n : ℕ) → is_pair_below 100 (digit n 10) (digit n 1) ≡ true
is_pair_below-last_digits n =
    and_from _ _ (and_from _ _ (is_digit-digit n 10) (is_digit-digit n 1)) (lt-ltb _ 100 (omega arith))

pub pair_value-four_digits : (n : ℕ) → n < 10_000 → pair_value (digit n 1000) (digit n 100) * 100 + pair_value (digit n 10) (digit n 1) ≡ n
pair_value-four_digits n h = omega arith

-- what a test of two bytes tells of them
pub record IsPair (limit a b : ℕ) : Type 0 where
  pub below : pair_value a b < limit
  pub small : pair_value a b < 100
  pub tens : a ≡ digit (pair_value a b) 10
  pub ones : b ≡ digit (pair_value a b) 1

pub IsPair-is_pair_below : (limit a b : ℕ) → is_pair_below limit a b ≡ true → IsPair limit a b
IsPair-is_pair_below limit a b h =
    let both = and_parts _ _ h in
    let digits = and_parts _ _ both.0 in
    let first = and_parts _ _ digits.0 in
    let second = and_parts _ _ digits.1 in
    let a_from = leb-true 48 a first.0 in
    let a_to = leb-true a 57 first.1 in
    let b_from = leb-true 48 b second.0 in
    let b_to = leb-true b 57 second.1 in
    record {
      below = ltb-true _ _ both.1;
      small = omega (arith, a_from, a_to, b_from, b_to);
      tens = omega (arith, a_from, a_to, b_from, b_to);
      ones = omega (arith, a_from, a_to, b_from, b_to);
    }

-- the digits of two pairs are those of the number that the four spell
pub record AreFour (a b c d : ℕ) : Type 0 where
  pub small : pair_value a b * 100 + pair_value c d < 10_000
  pub thousands : a ≡ digit (pair_value a b * 100 + pair_value c d) 1000
  pub hundreds : b ≡ digit (pair_value a b * 100 + pair_value c d) 100
  pub tens : c ≡ digit (pair_value a b * 100 + pair_value c d) 10
  pub ones : d ≡ digit (pair_value a b * 100 + pair_value c d) 1

split_pairs : (n m : ℕ) → n < 100 → m < 100 → (digit (n * 100 + m) 1000 ≡ digit n 10) × (digit (n * 100 + m) 100 ≡ digit n 1) × (digit (n * 100 + m) 10 ≡ digit m 10) × (digit (n * 100 + m) 1 ≡ digit m 1)
split_pairs n m h k = (omega arith, omega arith, omega arith, omega arith)

pub AreFour-pairs : (a b c d : ℕ) → IsPair 100 a b → IsPair 100 c d → AreFour a b c d
AreFour-pairs a b c d p q =
    let same = split_pairs (pair_value a b) (pair_value c d) p.below q.below in
    record {
      small = omega (arith, p.below, q.below);
      thousands = p.tens ∙ sym same.0;
      hundreds = p.ones ∙ sym same.1;
      tens = q.tens ∙ sym same.2;
      ones = q.ones ∙ sym same.3;
    }

-- the digits of a fraction of a second spell its ticks
pub fraction_ticks-seven_digits : (n : ℕ) → n < 10_000_000 → fraction_ticks (seven_digits n) 1_000_000 ≡ n
fraction_ticks-seven_digits n h = omega arith

-- the digits at the front of a text are digits
pub front_passes : (xs : List ℕ) (k d : ℕ) → k < length (take_while is_digit xs) → is_digit (get_or (take_while is_digit xs) k d) ≡ true
front_passes xs k d h =
    let within : k < prefix_len is_digit xs = omega (arith, h, length-prefix_len is_digit xs) in
    rw get_or-take (prefix_len_passes is_digit xs k d within)
