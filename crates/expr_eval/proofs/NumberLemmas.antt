-- Products of numbers of 64 bits.
use Rattle.std.proofs.Common.{arith, ◌≡◌, ◌*ℤ◌, ◌≤◌, ◌^◌, ◌*◌, ℕ, ℤ, unsigned_abs, w64, FitsSigned}
use Rattle.std.proofs.Math.Nat.{mul-le-mul}
use Rattle.std.proofs.lemmas.Int.{ints, unsigned_abs-mul}
use Rattle.expr_eval.specs.Numbers.{IsWide}

small : (a : ℤ) → FitsSigned w64 a → unsigned_abs a ≤ 2 ^ 63
small a h = grind (arith, ints)

below : (m n : ℕ) → m ≤ 2 ^ 63 → n ≤ 2 ^ 63 → m * n ≤ 2 ^ 126
below m n h k = let p = mul-le-mul h k in omega arith

pub product_is_wide : (a b : ℤ) → FitsSigned w64 a → FitsSigned w64 b → IsWide (a *ℤ b)
product_is_wide a b h k = rw (unsigned_abs-mul a b) (below _ _ (small a h) (small b k))
