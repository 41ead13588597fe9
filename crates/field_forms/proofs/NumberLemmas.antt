-- The number of bytes, the lowest first.
use Rattle.std.proofs.Common.{◌≡◌, ℕ, zero, suc, ◌+◌, ◌*◌, ◌/◌, ◌%◌, ◌^◌, true, false, cond, nat_lt, List, [], ◌∷◌, Some, None, refl, sym, ap, ◌∙◌, arith}
use Rattle.std.specs.Int.{byte_at, bytes_low_first}
use Rattle.std.proofs.Math.Nat.{div-div-eq-div-mul, pow-suc}
use Rattle.field_forms.specs.Forms.{Reading, image_reading}
use Rattle.field_forms.specs.FormLaws.{some-reading}
use Rattle.field_forms.specs.Numbers.{low_first, number_reading}

-- a low part, and behind it a high one
abbrev pub joined_reading : ℕ → Reading ℕ → (List ℕ → Reading ℕ) → Reading ℕ
joined_reading unit None next = None
joined_reading unit (Some (a, mid)) next = image_reading (λ b. a + unit * b) (next mid)

image_reading-same : (f g : ℕ → ℕ) (r : Reading ℕ) → ((n : ℕ) → f n ≡ g n) → image_reading f r ≡ image_reading g r
image_reading-same f g None h = refl
image_reading-same f g (Some (n, rest)) h = some-reading (f n) (g n) rest rest (h n) refl

joined-more : (b unit more : ℕ) (r : Reading ℕ) (next : List ℕ → Reading ℕ) → more ≡ 256 * unit
    → image_reading (λ n. b + 256 * n) (joined_reading unit r next) ≡ joined_reading more (image_reading (λ n. b + 256 * n) r) next
joined-more b unit more None next e = refl
joined-more b unit more (Some (a, mid)) next e = by (next mid)
  where
    sum : (n : ℕ) → b + 256 * (a + unit * n) ≡ b + 256 * a + 256 * unit * n
    sum n = grind arith

    by : (r : Reading ℕ) → image_reading (λ n. b + 256 * n) (image_reading (λ n. a + unit * n) r) ≡ image_reading (λ n. b + 256 * a + more * n) r
    by None = refl
    by (Some (n, rest)) = some-reading _ _ rest rest (sum n ∙ ap (λ m. b + 256 * a + m * n) (sym e)) refl

joined-from : (j k : ℕ) (bytes : List ℕ) → number_reading (j + k) bytes ≡ joined_reading (256 ^ j) (number_reading j bytes) (number_reading k)
joined-from zero k bytes = ap (λ n. number_reading n bytes) (omega arith) ∙ (elim (number_reading k bytes) as (λ r. r ≡ image_reading (λ b. 0 + 256 ^ 0 * b) r) [
  | None ↦ refl
  | Some p ↦ some-reading p.0 (0 + 256 ^ 0 * p.0) p.1 p.1 (omega arith) refl
])
joined-from (suc j) k bytes = ap (λ n. number_reading n bytes) (suc-sum j k) ∙ by (λ l. joined-from j k l) bytes
  where
    suc-sum : (j k : ℕ) → suc j + k ≡ suc (j + k)
    suc-sum j k = omega arith

    by : ((l : List ℕ) → number_reading (j + k) l ≡ joined_reading (256 ^ j) (number_reading j l) (number_reading k)) → (l : List ℕ) → number_reading (suc (j + k)) l ≡ joined_reading (256 ^ suc j) (number_reading (suc j) l) (number_reading k)
    by rest [] = refl
    by rest (b ∷ l) =
        elim (nat_lt b 256) as (λ t. cond t (image_reading (λ n. b + 256 * n) (number_reading (j + k) l)) None ≡ joined_reading (256 ^ suc j) (cond t (image_reading (λ n. b + 256 * n) (number_reading j l)) None) (number_reading k)) [
          | true ↦ ap (image_reading (λ n. b + 256 * n)) (rest l) ∙ joined-more b (256 ^ j) (256 ^ suc j) (number_reading j l) (number_reading k) (pow-suc 256 j ∙ omega arith)
          | false ↦ refl
        ]

pub halves_8 : (bytes : List ℕ) → number_reading 8 bytes ≡ joined_reading 4294967296 (number_reading 4 bytes) (number_reading 4)
halves_8 bytes = joined-from 4 4 bytes

pub halves_16 : (bytes : List ℕ) → number_reading 16 bytes ≡ joined_reading 18446744073709551616 (number_reading 8 bytes) (number_reading 8)
halves_16 bytes = joined-from 8 8 bytes

byte_at-from : (i n : ℕ) → byte_at i n ≡ n / 256 ^ i % 256
byte_at-from zero n = ap (λ m. m % 256) (omega arith)
byte_at-from (suc i) n = refl

div-more : (n k : ℕ) → n / 256 ^ suc k ≡ n / 256 ^ k / 256
div-more n k = ap (λ m. n / m) (pow-suc 256 k) ∙ sym (div-div-eq-div-mul n (256 ^ k) 256)

low_first-from : (k i n : ℕ) → bytes_low_first i k n ≡ low_first k (n / 256 ^ i)
low_first-from zero i n = refl
low_first-from (suc k) i n = λ j. byte_at-from i n j ∷ (low_first-from k (suc i) n ∙ ap (low_first k) (div-more n i)) j

-- std's bytes of a number are those of its form
pub bytes_low_first-low_first : (k n : ℕ) → bytes_low_first 0 k n ≡ low_first k n
bytes_low_first-low_first k n = low_first-from k 0 n ∙ ap (low_first k) (omega arith)
