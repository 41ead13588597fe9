-- The windows of a grid are sound.
use Rattle.std.specs.Prelude.{◌≡◌, ℕ, zero, suc, ◌+◌, ◌*◌, ◌/◌, ◌<◌, ◌≤◌, Bool, true, false, ◌&&◌, ◌==◌, cond, nat_lt, nat_le, int_lt, ℤ, pos, negsuc, unsigned_abs, List, [], ◌∷◌, ◌++◌, filter, refl}
use Rattle.std.specs.List.{AllByRecursion as Each}
use Rattle.std.proofs.Common.{sym, ap, subst, ◌∙◌, ◌⊎◌, inl, inr, arith, append-nil}
use Rattle.std.proofs.Math.Nat.{lt_of_mul-lt-mul_right, mul-le-mul_right, mul-lt-mul_of_pos_right}
use Rattle.std.proofs.lemmas.Bool.{eq-eqb, ne_eqb}
use Rattle.std.proofs.lemmas.Bool.Decides.{nat_tests}
use Rattle.std.proofs.lemmas.List.Elements.{filter-append}
use Rattle.row_order.proofs.ListLemmas.{Each-append, Each-filter, Each-weaker, filter-passes, filter-swap}
use Rattle.window_grid.specs.Grid.{first_multiple, grid_ends, grid_fits, grid_holds, grid_windows, hop_of, multiples, size_of}
use Rattle.window_grid.specs.Windows.{AreSound}
use Rattle.window_grid.specs.declared.grid.GridSpec.{GridSpec}

above-zero : (z : ℤ) → int_lt (pos 0) z ≡ true → 0 < unsigned_abs z
above-zero (pos n) h = grind (arith, nat_tests)
above-zero (negsuc n) h = cc

and-second : (a b : Bool) → (a && b) ≡ true → b ≡ true
and-second true b h = h
and-second false b h = cc

pub hop-above : (spec : GridSpec) → grid_fits spec ≡ true → 0 < hop_of spec
hop-above spec h = above-zero spec.hop (and-second (int_lt (pos 0) spec.size) _ h)

-- the first multiple is at or after the time
first_multiple-later : (hop t : ℕ) → 0 < hop → t ≤ first_multiple hop t * hop
first_multiple-later hop t h = omega arith

-- and no multiple between is
from_first : (hop t m : ℕ) → 0 < hop → nat_le (first_multiple hop t) m ≡ nat_le t (m * hop)
from_first hop t m h = by (cases (first_multiple hop t) m)
  where
    cases : (a b : ℕ) → (a ≤ b) ⊎ (b < a)
    cases a b = grind arith

    true-le : (a b : ℕ) → a ≤ b → nat_le a b ≡ true
    true-le a b k = grind (arith, nat_tests)

    false-le : (a b : ℕ) → b < a → nat_le a b ≡ false
    false-le a b k = grind (arith, nat_tests)

    next : (a b : ℕ) → a < b → a + 1 ≤ b
    next a b k = omega arith

    by : (first_multiple hop t ≤ m) ⊎ (m < first_multiple hop t) → nat_le (first_multiple hop t) m ≡ nat_le t (m * hop)
    by (inl k) =
        let up : first_multiple hop t * hop ≤ m * hop = mul-le-mul_right hop k in
        let past = first_multiple-later hop t h in
        true-le _ m k ∙ sym (true-le t (m * hop) (omega arith))
    by (inr k) =
        let up : (m + 1) * hop ≤ first_multiple hop t * hop = mul-le-mul_right hop (next m _ k) in
        false-le _ m k ∙ sym (false-le t (m * hop) (omega arith))

-- a multiple below t + size is among those that are looked at
within_size : (hop size t m : ℕ) → 0 < hop → m * hop < t + size → m < first_multiple hop t + (size / hop + 1)
within_size hop size t m h k =
    let past = first_multiple-later hop t h in
    let more : m * hop < (first_multiple hop t + (size / hop + 1)) * hop = omega arith in
    lt_of_mul-lt-mul_right hop more

multiples-later : (hop a n : ℕ) → Each (λ e. a * hop ≤ e) (multiples hop a n)
multiples-later hop a zero = tt
multiples-later hop a (suc n) = Each-append _ (multiples hop a n) _ (multiples-later hop a n) (omega arith, tt)

pub multiples-are : (hop a n : ℕ) → Each (λ e. (m : ℕ) × (e ≡ m * hop)) (multiples hop a n)
multiples-are hop a zero = tt
multiples-are hop a (suc n) = Each-append _ (multiples hop a n) _ (multiples-are hop a n) ((a + n, refl), tt)

-- m among the n numbers from a on, one more of them
among-new : (a m n : ℕ) → m ≡ a + n → ((nat_le a m && nat_lt m (a + n)) ≡ false) × ((nat_le a m && nat_lt m (a + suc n)) ≡ true)
among-new a m n h = (grind (arith, nat_tests), grind (arith, nat_tests))

among-below : (a m n : ℕ) → m < a + n → (nat_le a m && nat_lt m (a + n)) ≡ (nat_le a m && nat_lt m (a + suc n))
among-below a m n h = grind (arith, nat_tests)

among-above : (a m n : ℕ) → a + n < m → (nat_le a m && nat_lt m (a + n)) ≡ (nat_le a m && nat_lt m (a + suc n))
among-above a m n h = grind (arith, nat_tests)

among-none : (a m : ℕ) → (nat_le a m && nat_lt m (a + 0)) ≡ false
among-none a m = grind (arith, nat_tests)

cases_order : (m n : ℕ) → (m ≡ n) ⊎ ((m < n) ⊎ (n < m))
cases_order m n = grind arith

-- of n multiples from the a-th on, those equal to the m-th
multiples-equal : (hop a m n : ℕ) → 0 < hop → filter (λ x. x == (m * hop)) (multiples hop a n) ≡ cond (nat_le a m && nat_lt m (a + n)) (m * hop ∷ []) []
multiples-equal hop a m zero h = sym (ap (λ (b : Bool). cond b (m * hop ∷ []) []) (among-none a m))
multiples-equal hop a m (suc n) h =
    filter-append (λ x. x == (m * hop)) (multiples hop a n) ((a + n) * hop ∷ [])
    ∙ ap (λ l. l ++ filter (λ x. x == (m * hop)) ((a + n) * hop ∷ [])) (multiples-equal hop a m n h)
    ∙ by (cases_order m (a + n))
  where
    found : Bool → List ℕ
    found b = cond b (m * hop ∷ []) []

    missed : ((a + n) * hop ≡ m * hop → ⊥) → (nat_le a m && nat_lt m (a + n)) ≡ (nat_le a m && nat_lt m (a + suc n))
        → cond (nat_le a m && nat_lt m (a + n)) (m * hop ∷ []) [] ++ filter (λ x. x == (m * hop)) ((a + n) * hop ∷ []) ≡ cond (nat_le a m && nat_lt m (a + suc n)) (m * hop ∷ []) []
    missed apart same =
        ap (λ (b : Bool). cond (nat_le a m && nat_lt m (a + n)) (m * hop ∷ []) [] ++ cond b ((a + n) * hop ∷ []) []) (ne_eqb ((a + n) * hop) (m * hop) apart)
        ∙ append-nil (cond (nat_le a m && nat_lt m (a + n)) (m * hop ∷ []) [])
        ∙ ap (λ (b : Bool). cond b (m * hop ∷ []) []) same

    by : (m ≡ a + n) ⊎ ((m < a + n) ⊎ (a + n < m))
        → cond (nat_le a m && nat_lt m (a + n)) (m * hop ∷ []) [] ++ filter (λ x. x == (m * hop)) ((a + n) * hop ∷ []) ≡ cond (nat_le a m && nat_lt m (a + suc n)) (m * hop ∷ []) []
    by (inl q) =
        let among = among-new a m n q in
        let here : (a + n) * hop ≡ m * hop = ap (λ k. k * hop) (sym q) in
        ap (λ (b : Bool). cond b (m * hop ∷ []) [] ++ filter (λ x. x == (m * hop)) ((a + n) * hop ∷ [])) among.0
        ∙ ap (λ (b : Bool). cond b ((a + n) * hop ∷ []) []) (eq-eqb ((a + n) * hop) (m * hop) here)
        ∙ ap (λ (e : ℕ). e ∷ []) here
        ∙ sym (ap (λ (b : Bool). cond b (m * hop ∷ []) []) among.1)
    by (inr (inl l)) = missed (λ e. absurd (omega (arith, e, mul-lt-mul_of_pos_right {m = m} {n = a + n} {k = hop} l h))) (among-below a m n l)
    by (inr (inr l)) = missed (λ e. absurd (omega (arith, e, mul-lt-mul_of_pos_right {m = a + n} {n = m} {k = hop} l h))) (among-above a m n l)

lt-true : (m n : ℕ) → nat_lt m n ≡ true → m < n
lt-true m n h = grind (arith, nat_tests)

true-lt : (m n : ℕ) → m < n → nat_lt m n ≡ true
true-lt m n h = grind (arith, nat_tests)

false_true : {P : Type 0} → false ≡ true → P
false_true q = cc

filter-one : (p : ℕ → Bool) (b : Bool) (e : ℕ) → filter p (cond b (e ∷ []) []) ≡ cond b (cond (p e) (e ∷ []) []) []
filter-one p true e = refl
filter-one p false e = refl

by_tests : {A : Type 0} (a b c d : Bool) (u v : A) → a ≡ c → (d ≡ true → b ≡ true) → cond (a && b) (cond d u v) v ≡ cond (c && d) u v
by_tests true true c d u v e f = ap (λ x. cond (x && d) u v) e
by_tests true false c true u v e f = false_true (f refl)
by_tests true false true false u v e f = refl
by_tests true false false false u v e f = refl
by_tests false b true d u v e f = false_true e
by_tests false b false d u v e f = refl

-- the m-th multiple stands among the ends for t exactly where its window holds t, and then once
pub grid_ends-once : (size hop t m : ℕ) → 0 < hop → filter (λ x. x == (m * hop)) (grid_ends size hop t) ≡ cond (grid_holds size (m * hop) t) (m * hop ∷ []) []
grid_ends-once size hop t m h =
    let a = first_multiple hop t in
    let n = size / hop + 1 in
    filter-swap (λ x. x == (m * hop)) (λ e. nat_lt e (t + size)) (multiples hop a n)
    ∙ ap (filter (λ e. nat_lt e (t + size))) (multiples-equal hop a m n h)
    ∙ filter-one (λ e. nat_lt e (t + size)) (nat_le a m && nat_lt m (a + n)) (m * hop)
    ∙ by_tests (nat_le a m) (nat_lt m (a + n)) (nat_le t (m * hop)) (nat_lt (m * hop) (t + size)) (m * hop ∷ []) []
    (from_first hop t m h)
    (λ k. true-lt m (a + n) (within_size hop size t m h (lt-true (m * hop) (t + size) k)))

pub grid_ends-are : (size hop t : ℕ) → Each (λ e. (m : ℕ) × (e ≡ m * hop)) (grid_ends size hop t)
grid_ends-are size hop t = Each-filter _ (λ e. nat_lt e (t + size)) _ (multiples-are hop (first_multiple hop t) (size / hop + 1))

held : (size e t : ℕ) → grid_holds size e t ≡ true → (t ≤ e) × (e < t + size)
held size e t h = (grind (arith, nat_tests), grind (arith, nat_tests))

pub grid_windows-sound : (spec : GridSpec) → grid_fits spec ≡ true → AreSound (grid_windows spec)
grid_windows-sound spec f =
    let size = size_of spec in
    let hop = hop_of spec in
    let above = hop-above spec f in
    record {
      ends_later = λ t.
          Each-filter _ (λ e. nat_lt e (t + size)) _ (Each-weaker _ _ (multiples hop (first_multiple hop t) (size / hop + 1)) (λ e le. omega (arith, first_multiple-later hop t above)) (multiples-later hop (first_multiple hop t) (size / hop + 1)));
      ends_near = λ t.
          Each-weaker _ _ (grid_ends size hop t) (λ e lt. omega (arith, lt-true e (t + size) lt)) (filter-passes (λ e. nat_lt e (t + size)) (multiples hop (first_multiple hop t) (size / hop + 1)));
      holds_earlier = λ e t h. (held size e t h).0;
      holds_near = λ e t h. omega (arith, (held size e t h).1);
      once = λ t.
          Each-weaker _ _ (grid_ends size hop t) (λ e at u. subst (λ x. filter (λ y. y == x) (grid_ends size hop u) ≡ cond (grid_holds size x u) (x ∷ []) []) (sym at.1) (grid_ends-once size hop u at.0 above)) (grid_ends-are size hop t);
    }
