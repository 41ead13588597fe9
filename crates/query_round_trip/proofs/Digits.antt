-- Numbers: the digits that a number is written with are a token, and stand for that number.
use Rattle.std.proofs.Common.{◌≡◌, ◌+◌, ◌-◌, ◌*◌, ◌/◌, ◌%◌, ◌^◌, ◌≤◌, ◌<◌, ℕ, List, [], ◌∷◌, ◌++◌, length, drop, Bool, true, false, refl, ap, ◌∙◌, arith, length-append}
use Rattle.std.proofs.lemmas.Bool.Decides.{nat_tests}
use Rattle.std.proofs.lemmas.Fmt.{decimal_by_steps}
use Rattle.std.specs.Fmt.{decimal}
use Rattle.std.specs.List.{list_all}
use Rattle.std.specs.Prelude.{◌==◌, ◌&&◌, if◌then◌else◌}
use Rattle.value_text.specs.Printed.{fraction_digits}
use Rattle.query_tokens.specs.Bytes.{is_digit}
use Rattle.query_tokens.proofs.SymbolLemmas.{equal_numbers}
use Rattle.query_tokens.specs.Steps.{value_from}

-- ---- values of digits

pub value_from-append : (value : ℕ) (xs ys : List ℕ) → value_from value (xs ++ ys) ≡ value_from (value_from value xs) ys
value_from-append value [] ys = refl
value_from-append value (x ∷ xs) ys = value_from-append (10 * value + (x - 48)) xs ys

pub digit_byte : (n : ℕ) → n < 10 → is_digit (48 + n) ≡ true
digit_byte n h = grind (arith, nat_tests)

pub and_both : (a b : Bool) → a ≡ true → b ≡ true → (a && b) ≡ true
and_both true b e f = f
and_both false b e f = e

digits_append : (xs ys : List ℕ) → list_all is_digit xs ≡ true → list_all is_digit ys ≡ true → list_all is_digit (xs ++ ys) ≡ true
digits_append [] ys e f = f
digits_append (x ∷ xs) ys e f = by_cases (is_digit x) refl e (λ rest. digits_append xs ys rest f)
  where
    by_cases : (t : Bool) → is_digit x ≡ t → (t && list_all is_digit xs) ≡ true → (list_all is_digit xs ≡ true → list_all is_digit (xs ++ ys) ≡ true) → (is_digit x && list_all is_digit (xs ++ ys)) ≡ true
    by_cases true d rest more = and_both (is_digit x) (list_all is_digit (xs ++ ys)) d (more rest)
    by_cases false d rest more = cc

-- what the digits of a number are
pub record DigitsOf (n : ℕ) (ds : List ℕ) : Type 0 where
  pub value : value_from 0 ds ≡ n
  pub digits : list_all is_digit ds ≡ true
  pub some : 0 < length ds

last_digit : (n : ℕ) (ds : List ℕ) → 10 ≤ n → DigitsOf (n / 10) ds → DigitsOf n (ds ++ (48 + n % 10) ∷ [])
last_digit n ds h d = record {
  value = value_from-append 0 ds ((48 + n % 10) ∷ []) ∙ ap (λ (v : ℕ). 10 * v + (48 + n % 10 - 48)) d.value ∙ omega arith;
  digits = digits_append ds ((48 + n % 10) ∷ []) d.digits (and_both (is_digit (48 + n % 10)) true (digit_byte (n % 10) (omega arith)) refl);
  some = omega (arith, length-append ds ((48 + n % 10) ∷ []), d.some);
}

first_digit : (n : ℕ) → n < 10 → DigitsOf n ((48 + n) ∷ [])
first_digit n h = record {
  value = omega arith;
  digits = and_both (is_digit (48 + n)) true (digit_byte n h) refl;
  some = omega arith;
}

pub decimal_digits : (n : ℕ) → n < 2 ^ 64 → DigitsOf n (decimal n)
decimal_digits = decimal_by_steps DigitsOf first_digit last_digit

-- ---- the digits behind a point

-- of a number of millionths below one: with the zeros that are missing they have its value
pub record Fraction (zeros : List ℕ) (one a r : ℕ) (ds : List ℕ) : Type 0 where
  pub value : value_from (value_from a ds) (drop (length ds) zeros) ≡ a * one + r
  pub digits : list_all is_digit ds ≡ true
  pub short : length ds ≤ length zeros

fraction_0 : (a r : ℕ) → r < 1 → Fraction [] 1 a r (fraction_digits [] r)
fraction_0 a r h = record { value = omega arith; digits = refl; short = omega arith }

fraction_1 : (a r : ℕ) → r < 10 → Fraction (48 ∷ []) 10 a r (fraction_digits (1 ∷ []) r)
fraction_1 a r h = by_cases (r == 0) refl
  where
    by_cases : (t : Bool) → (r == 0) ≡ t → Fraction (48 ∷ []) 10 a r (if t then [] else (48 + r / 1 % 10) ∷ fraction_digits ([]) (r % 1))
    by_cases true e = let none : r ≡ 0 = equal_numbers r 0 e in record { value = omega arith; digits = refl; short = omega arith }
    by_cases false e =
        let f = fraction_0 (10 * a + (48 + r / 1 % 10 - 48)) (r % 1) (omega arith) in
        record {
          value = f.value ∙ omega arith;
          digits = and_both (is_digit (48 + r / 1 % 10)) (list_all is_digit (fraction_digits ([]) (r % 1))) (digit_byte (r / 1 % 10) (omega arith)) f.digits;
          short = let s = f.short in omega arith;
        }

fraction_2 : (a r : ℕ) → r < 100 → Fraction (48 ∷ 48 ∷ []) 100 a r (fraction_digits (10 ∷ 1 ∷ []) r)
fraction_2 a r h = by_cases (r == 0) refl
  where
    by_cases : (t : Bool) → (r == 0) ≡ t → Fraction (48 ∷ 48 ∷ []) 100 a r (if t then [] else (48 + r / 10 % 10) ∷ fraction_digits (1 ∷ []) (r % 10))
    by_cases true e = let none : r ≡ 0 = equal_numbers r 0 e in record { value = omega arith; digits = refl; short = omega arith }
    by_cases false e =
        let f = fraction_1 (10 * a + (48 + r / 10 % 10 - 48)) (r % 10) (omega arith) in
        record {
          value = f.value ∙ omega arith;
          digits = and_both (is_digit (48 + r / 10 % 10)) (list_all is_digit (fraction_digits (1 ∷ []) (r % 10))) (digit_byte (r / 10 % 10) (omega arith)) f.digits;
          short = let s = f.short in omega arith;
        }

fraction_3 : (a r : ℕ) → r < 1000 → Fraction (48 ∷ 48 ∷ 48 ∷ []) 1000 a r (fraction_digits (100 ∷ 10 ∷ 1 ∷ []) r)
fraction_3 a r h = by_cases (r == 0) refl
  where
    by_cases : (t : Bool) → (r == 0) ≡ t → Fraction (48 ∷ 48 ∷ 48 ∷ []) 1000 a r (if t then [] else (48 + r / 100 % 10) ∷ fraction_digits (10 ∷ 1 ∷ []) (r % 100))
    by_cases true e = let none : r ≡ 0 = equal_numbers r 0 e in record { value = omega arith; digits = refl; short = omega arith }
    by_cases false e =
        let f = fraction_2 (10 * a + (48 + r / 100 % 10 - 48)) (r % 100) (omega arith) in
        record {
          value = f.value ∙ omega arith;
          digits = and_both (is_digit (48 + r / 100 % 10)) (list_all is_digit (fraction_digits (10 ∷ 1 ∷ []) (r % 100))) (digit_byte (r / 100 % 10) (omega arith)) f.digits;
          short = let s = f.short in omega arith;
        }

fraction_4 : (a r : ℕ) → r < 10000 → Fraction (48 ∷ 48 ∷ 48 ∷ 48 ∷ []) 10000 a r (fraction_digits (1000 ∷ 100 ∷ 10 ∷ 1 ∷ []) r)
fraction_4 a r h = by_cases (r == 0) refl
  where
    by_cases : (t : Bool) → (r == 0) ≡ t → Fraction (48 ∷ 48 ∷ 48 ∷ 48 ∷ []) 10000 a r (if t then [] else (48 + r / 1000 % 10) ∷ fraction_digits (100 ∷ 10 ∷ 1 ∷ []) (r % 1000))
    by_cases true e = let none : r ≡ 0 = equal_numbers r 0 e in record { value = omega arith; digits = refl; short = omega arith }
    by_cases false e =
        let f = fraction_3 (10 * a + (48 + r / 1000 % 10 - 48)) (r % 1000) (omega arith) in
        record {
          value = f.value ∙ omega arith;
          digits = and_both (is_digit (48 + r / 1000 % 10)) (list_all is_digit (fraction_digits (100 ∷ 10 ∷ 1 ∷ []) (r % 1000))) (digit_byte (r / 1000 % 10) (omega arith)) f.digits;
          short = let s = f.short in omega arith;
        }

fraction_5 : (a r : ℕ) → r < 100000 → Fraction (48 ∷ 48 ∷ 48 ∷ 48 ∷ 48 ∷ []) 100000 a r (fraction_digits (10000 ∷ 1000 ∷ 100 ∷ 10 ∷ 1 ∷ []) r)
fraction_5 a r h = by_cases (r == 0) refl
  where
    by_cases : (t : Bool) → (r == 0) ≡ t → Fraction (48 ∷ 48 ∷ 48 ∷ 48 ∷ 48 ∷ []) 100000 a r (if t then [] else (48 + r / 10000 % 10) ∷ fraction_digits (1000 ∷ 100 ∷ 10 ∷ 1 ∷ []) (r % 10000))
    by_cases true e = let none : r ≡ 0 = equal_numbers r 0 e in record { value = omega arith; digits = refl; short = omega arith }
    by_cases false e =
        let f = fraction_4 (10 * a + (48 + r / 10000 % 10 - 48)) (r % 10000) (omega arith) in
        record {
          value = f.value ∙ omega arith;
          digits = and_both (is_digit (48 + r / 10000 % 10)) (list_all is_digit (fraction_digits (1000 ∷ 100 ∷ 10 ∷ 1 ∷ []) (r % 10000))) (digit_byte (r / 10000 % 10) (omega arith)) f.digits;
          short = let s = f.short in omega arith;
        }

pub fraction_6 : (a r : ℕ) → r < 1000000 → Fraction (48 ∷ 48 ∷ 48 ∷ 48 ∷ 48 ∷ 48 ∷ []) 1000000 a r (fraction_digits (100000 ∷ 10000 ∷ 1000 ∷ 100 ∷ 10 ∷ 1 ∷ []) r)
fraction_6 a r h = by_cases (r == 0) refl
  where
    by_cases : (t : Bool) → (r == 0) ≡ t → Fraction (48 ∷ 48 ∷ 48 ∷ 48 ∷ 48 ∷ 48 ∷ []) 1000000 a r (if t then [] else (48 + r / 100000 % 10) ∷ fraction_digits (10000 ∷ 1000 ∷ 100 ∷ 10 ∷ 1 ∷ []) (r % 100000))
    by_cases true e = let none : r ≡ 0 = equal_numbers r 0 e in record { value = omega arith; digits = refl; short = omega arith }
    by_cases false e =
        let f = fraction_5 (10 * a + (48 + r / 100000 % 10 - 48)) (r % 100000) (omega arith) in
        record {
          value = f.value ∙ omega arith;
          digits = and_both (is_digit (48 + r / 100000 % 10)) (list_all is_digit (fraction_digits (10000 ∷ 1000 ∷ 100 ∷ 10 ∷ 1 ∷ []) (r % 100000))) (digit_byte (r / 100000 % 10) (omega arith)) f.digits;
          short = let s = f.short in omega arith;
        }
