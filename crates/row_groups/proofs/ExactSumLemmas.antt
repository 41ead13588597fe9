-- Numbers of 64 bits that aren't too many have a sum within 128 bits.
use Rattle.std.proofs.Common.{◌≡◌, ℕ, ◌+◌, ◌*◌, ◌^◌, ◌≤◌, Bool, true, cond, List, [], ◌∷◌, length, refl, ap, ◌∙◌, arith, ℤ, pos, ◌≤ℤ◌}
use Rattle.std.specs.List.{fold}
use Rattle.std.specs.List.{AllByRecursion as Each}
use Rattle.std.specs.Prelude.{◌+ℤ◌, Some, None}
use Rattle.std.proofs.lemmas.Int.{ints}
use Rattle.value_text.specs.Numbers.{is_number}
use Rattle.row_groups.specs.Aggregates.{exact_sum_from, is_wide}
use Rattle.row_groups.specs.Laws.{AreAddedExactly}

-- the greatest size of a number
abbrev size : ℕ
size = 2 ^ 63

lower : (n : ℤ) → is_number n ≡ true → pos 0 ≤ℤ (n +ℤ pos size)
lower n h = grind (arith, ints)

upper : (n : ℤ) → is_number n ≡ true → n ≤ℤ pos size
upper n h = grind (arith, ints)

wide : (z : ℤ) (b : ℕ) → pos 0 ≤ℤ (z +ℤ pos b) → z ≤ℤ pos b → b ≤ 2 ^ 126 → is_wide z ≡ true
wide z b h k le = grind (arith, ints)

exact_sum-within : (total : ℤ) (b : ℕ) (ns : List ℤ) → pos 0 ≤ℤ (total +ℤ pos b) → total ≤ℤ pos b
    → Each (λ n. is_number n ≡ true) ns → b + length ns * size ≤ 2 ^ 126
    → exact_sum_from total ns ≡ Some (fold ◌+ℤ◌ total ns)
exact_sum-within total b [] h k each le = refl
exact_sum-within total b (n ∷ ns) h k each le =
    let low : pos 0 ≤ℤ ((total +ℤ n) +ℤ pos (b + size)) = omega (arith, ints, lower n each.0) in
    let high : (total +ℤ n) ≤ℤ pos (b + size) = omega (arith, ints, upper n each.0) in
    let more : (b + size) + length ns * size ≤ 2 ^ 126 = omega arith in
    ap (λ (t : Bool). cond t (exact_sum_from (total +ℤ n) ns) None) (wide (total +ℤ n) (b + size) low high (omega arith))
    ∙ exact_sum-within (total +ℤ n) (b + size) ns low high each.1 more

pub exact_sum-all : (ns : List ℤ) → AreAddedExactly ns
exact_sum-all ns each few = exact_sum-within (pos 0) 0 ns (omega (arith, ints)) (omega (arith, ints)) each (omega arith)
