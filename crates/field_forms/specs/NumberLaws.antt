-- Numbers and moments have forms.
use Rattle.std.specs.Prelude.{◌≡◌, ℕ, zero, suc, ◌+◌, ◌*◌, ◌/◌, ◌%◌, ◌^◌, ◌<◌, true, false, cond, nat_lt, ℤ, pos, negsuc, List, [], ◌∷◌, ◌++◌, Some, None, refl}
use Rattle.std.proofs.Common.{sym, ap, ◌∙◌, arith}
use Rattle.std.specs.Int.{Width, w64, w128, cast_signed, cast_unsigned}
use Rattle.std.proofs.Math.Facts.{Fits-lt-pow, Fits-of_z, sfits_to_z, Fits-of_lt}
use Rattle.std.proofs.Math.Nat.{pow-suc}
use Rattle.std.proofs.lemmas.Bool.Decides.{nat_tests}
use Rattle.std.proofs.lemmas.Int.{of_z-to_z, to_z-of_z}
use Rattle.field_forms.specs.Forms.{IsForm, image_reading}
use Rattle.field_forms.specs.FormLaws.{IsForm-image_form, IsForm-tested_form, image_reading-inv, same-rest, same-value, some-reading}
use Rattle.field_forms.specs.Numbers.{i128_form, i64_form, low_first, moment_form, number_form, number_reading, signed_fits, signed_form, u16_form, u32_form, u64_form, u8_form}
use mir.Val.{SFits, bits, hbits}

lt-true : (m n : ℕ) → nat_lt m n ≡ true → m < n
lt-true m n h = grind (arith, nat_tests)

true-lt : (m n : ℕ) → m < n → nat_lt m n ≡ true
true-lt m n h = grind (arith, nat_tests)

pow-more : (k : ℕ) → 256 ^ suc k ≡ 256 * 256 ^ k
pow-more k = pow-suc 256 k ∙ omega arith

quotient-below : (n k : ℕ) → n < 256 * k → n / 256 < k
quotient-below n k h = omega arith

whole : (n : ℕ) → n % 256 + 256 * (n / 256) ≡ n
whole n = omega arith

low : (b m : ℕ) → b < 256 → (b + 256 * m) % 256 ≡ b
low b m h = omega arith

high : (b m : ℕ) → b < 256 → (b + 256 * m) / 256 ≡ m
high b m h = omega arith

number_reading-low_first : (k n : ℕ) (rest : List ℕ) → n < 256 ^ k → number_reading k (low_first k n ++ rest) ≡ Some (n, rest)
number_reading-low_first zero n rest h = some-reading 0 n rest rest (omega arith) refl
number_reading-low_first (suc k) n rest h =
    ap (λ b. cond b (image_reading (λ m. n % 256 + 256 * m) (number_reading k (low_first k (n / 256) ++ rest))) None) (true-lt (n % 256) 256 (omega arith))
    ∙ ap (image_reading (λ m. n % 256 + 256 * m)) (number_reading-low_first k (n / 256) rest (quotient-below n (256 ^ k) (let e = pow-more k in omega arith)))
    ∙ some-reading (n % 256 + 256 * (n / 256)) n rest rest (whole n) refl

number_reading-only : (k : ℕ) (bytes : List ℕ) (n : ℕ) (rest : List ℕ) → number_reading k bytes ≡ Some (n, rest)
    → (n < 256 ^ k) × (bytes ≡ low_first k n ++ rest)
number_reading-only zero bytes n rest e = (let z = same-value 0 n bytes rest e in omega arith, same-rest 0 n bytes rest e)
number_reading-only (suc k) [] n rest e = cc
number_reading-only (suc k) (b ∷ bytes) n rest e =
    elim (nat_lt b 256) as (λ t. nat_lt b 256 ≡ t → cond t (image_reading (λ m. b + 256 * m) (number_reading k bytes)) None ≡ Some (n, rest) → (n < 256 ^ suc k) × (b ∷ bytes ≡ low_first (suc k) n ++ rest)) [
      | true ↦ λ h q.
          let w = image_reading-inv (λ m. b + 256 * m) (number_reading k bytes) n rest q in
          let lt = lt-true b 256 h in
          let o = number_reading-only k bytes w.0 rest w.1 in
          let p = pow-more k in (
            omega (arith, w.2),
            (λ i. (sym (low b w.0 lt) ∙ ap (λ m. m % 256) w.2) i ∷ (o.1 ∙ ap (λ m. low_first k m ++ rest) (sym (high b w.0 lt) ∙ ap (λ m. m / 256) w.2)) i),
          )
      | false ↦ λ h q. cc
    ] refl e

pub IsForm-number_form : (k : ℕ) → IsForm (number_form k)
IsForm-number_form k = record {
  read_back = λ n rest h. number_reading-low_first k n rest (lt-true n (256 ^ k) h);
  only = λ bytes n rest e. let o = number_reading-only k bytes n rest e in (true-lt n (256 ^ k) o.0, o.1);
}

pub IsForm-u8_form : IsForm u8_form
IsForm-u8_form = IsForm-number_form 1

pub IsForm-u16_form : IsForm u16_form
IsForm-u16_form = IsForm-number_form 2

pub IsForm-u32_form : IsForm u32_form
IsForm-u32_form = IsForm-number_form 4

pub IsForm-u64_form : IsForm u64_form
IsForm-u64_form = IsForm-number_form 8

fits-signed : (w : Width) (half : ℕ) → hbits w ≡ half → (z : ℤ) → signed_fits half z ≡ true → SFits w z
fits-signed w half e (pos n) h = record { sfits = lt-true n (2 ^ hbits w) (ap (λ x. nat_lt n (2 ^ x)) e ∙ h) }
fits-signed w half e (negsuc n) h = record { sfits = lt-true n (2 ^ hbits w) (ap (λ x. nat_lt n (2 ^ x)) e ∙ h) }

signed-fits : (w : Width) (half : ℕ) → hbits w ≡ half → (z : ℤ) → SFits w z → signed_fits half z ≡ true
signed-fits w half e (pos n) h = ap (λ x. nat_lt n (2 ^ x)) (sym e) ∙ true-lt n (2 ^ hbits w) h.sfits
signed-fits w half e (negsuc n) h = ap (λ x. nat_lt n (2 ^ x)) (sym e) ∙ true-lt n (2 ^ hbits w) h.sfits

pub IsForm-signed_form : (w : Width) (half k : ℕ) → hbits w ≡ half → 256 ^ k ≡ 2 ^ bits w → IsForm (signed_form w half k)
IsForm-signed_form w half k h e = IsForm-image_form (signed_fits half) (cast_signed w) (cast_unsigned w) (record {
  back = λ z f. to_z-of_z w z (fits-signed w half h z f);
  back_fits = λ z f. ap (nat_lt (cast_unsigned w z)) e ∙ true-lt (cast_unsigned w z) (2 ^ bits w) (Fits-lt-pow (Fits-of_z (fits-signed w half h z f)));
  forth = λ n f. of_z-to_z w n (below n f);
  forth_fits = λ n f. signed-fits w half h (cast_signed w n) (sfits_to_z (Fits-of_lt (below n f)));
}) (IsForm-number_form k)
  where
    below : (n : ℕ) → nat_lt n (256 ^ k) ≡ true → n < 2 ^ bits w
    below n f = lt-true n (2 ^ bits w) (ap (nat_lt n) (sym e) ∙ f)

pub IsForm-i64_form : IsForm i64_form
IsForm-i64_form = IsForm-signed_form w64 63 8 refl refl

pub IsForm-i128_form : IsForm i128_form
IsForm-i128_form = IsForm-signed_form w128 127 16 refl refl

pub IsForm-moment_form : IsForm moment_form
IsForm-moment_form = IsForm-tested_form _ IsForm-u64_form
