-- What a list has at, below, from and between times.
use Rattle.std.proofs.Common.{◌≡◌, ℕ, ◌≤◌, ◌<◌, Bool, true, false, cond, ltb, leb, List, [], ◌∷◌, ◌++◌}
use Rattle.std.proofs.Common.{filter, map, refl, ap, sym, ◌∙◌, arith, append-nil}
use Rattle.std.proofs.lemmas.Bool.{lt-ltb, le-ltb, le-leb, lt-leb, eq-eqb, ne_eqb, ltb-true, ltb-false, leb-true}
use Rattle.std.proofs.lemmas.List.Elements.{filter-append}
use Rattle.row_order.specs.InOrder.{AllFrom, AllBelow, IsInOrder}
use Rattle.row_order.specs.Stretches.{rows_at, rows_below, rows_from, rows_between}
use Rattle.row_order.proofs.ListLemmas.{Each-append, Each-front, Each-weaker, Each-filter, Each-map}
use Rattle.row_order.proofs.ListLemmas.{filter-passes, filter-all, filter-none, filter-hit, filter-miss}
use Rattle.row_order.proofs.ListLemmas.{filter-filter, filter-within}

below-both : (n v w : ℕ) → v ≤ w → ltb n v ≡ true → n < w
below-both n v w le k = omega (arith, ltb-true n v k)

from-both : (u v n : ℕ) → u ≤ v → leb v n ≡ true → u ≤ n
from-both u v n le k = omega (arith, leb-true v n k)

module _ {X : Type 0} (time : X → ℕ) where
  pub AllFrom-lower : (m n : ℕ) (xs : List X) → m ≤ n → AllFrom time n xs → AllFrom time m xs
  AllFrom-lower m n xs le h = Each-weaker _ _ xs (λ x k. omega arith) h

  pub AllBelow-higher : (m n : ℕ) (xs : List X) → m ≤ n → AllBelow time m xs → AllBelow time n xs
  AllBelow-higher m n xs le h = Each-weaker _ _ xs (λ x k. omega arith) h

  pub IsInOrder-filter : (p : X → Bool) (xs : List X) → IsInOrder time xs → IsInOrder time (filter p xs)
  IsInOrder-filter p [] h = tt
  IsInOrder-filter p (x ∷ xs) h =
      elim (p x) as (λ b. IsInOrder time (cond b (x ∷ filter p xs) (filter p xs))) [
        | true ↦ (Each-filter _ p xs h.0, IsInOrder-filter p xs h.1)
        | false ↦ IsInOrder-filter p xs h.1
      ]

  -- a list below w, and behind it one from w on
  pub IsInOrder-append : (w : ℕ) (xs ys : List X) → AllBelow time w xs → AllFrom time w ys
      → IsInOrder time xs → IsInOrder time ys → IsInOrder time (xs ++ ys)
  IsInOrder-append w [] ys b f h k = k
  IsInOrder-append w (x ∷ xs) ys b f h k = (
    Each-append _ xs ys h.0 (Each-weaker _ _ ys (λ y l. omega (arith, b.0)) f),
    IsInOrder-append w xs ys b.1 f h.1 k,
  )

  pub IsInOrder-front : (xs ys : List X) → IsInOrder time (xs ++ ys) → IsInOrder time xs
  IsInOrder-front [] ys h = tt
  IsInOrder-front (x ∷ xs) ys h = (Each-front _ xs ys h.0, IsInOrder-front xs ys h.1)

  pub IsInOrder-back : (xs ys : List X) → IsInOrder time (xs ++ ys) → IsInOrder time ys
  IsInOrder-back [] ys h = h
  IsInOrder-back (x ∷ xs) ys h = IsInOrder-back xs ys h.1

  pub rows_at-hit : (t : ℕ) (x : X) (xs : List X) → time x ≡ t → rows_at time t (x ∷ xs) ≡ x ∷ rows_at time t xs
  rows_at-hit t x xs h = filter-hit _ x xs (eq-eqb (time x) t h)

  pub rows_at-miss : (t : ℕ) (x : X) (xs : List X) → (time x ≡ t → ⊥) → rows_at time t (x ∷ xs) ≡ rows_at time t xs
  rows_at-miss t x xs h = filter-miss _ x xs (ne_eqb (time x) t h)

  pub rows_at-none : (t n : ℕ) (xs : List X) → t < n → AllFrom time n xs → rows_at time t xs ≡ []
  rows_at-none t n [] lt h = refl
  rows_at-none t n (x ∷ xs) lt h = rows_at-miss t x xs (λ e. absurd (omega (arith, h.0))) ∙ rows_at-none t n xs lt h.1

  pub rows_below-none : (w : ℕ) (xs : List X) → AllFrom time w xs → rows_below time w xs ≡ []
  rows_below-none w xs h = filter-none _ xs (Each-weaker _ _ xs (λ x k. le-ltb (time x) w k) h)

  pub rows_below-all : (w : ℕ) (xs : List X) → AllBelow time w xs → rows_below time w xs ≡ xs
  rows_below-all w xs h = filter-all _ xs (Each-weaker _ _ xs (λ x k. lt-ltb (time x) w k) h)

  pub rows_from-none : (v : ℕ) (xs : List X) → AllBelow time v xs → rows_from time v xs ≡ []
  rows_from-none v xs h = filter-none _ xs (Each-weaker _ _ xs (λ x k. lt-leb v (time x) k) h)

  pub rows_from-all : (v : ℕ) (xs : List X) → AllFrom time v xs → rows_from time v xs ≡ xs
  rows_from-all v xs h = filter-all _ xs (Each-weaker _ _ xs (λ x k. le-leb v (time x) k) h)

  pub rows_below-are_below : (w : ℕ) (xs : List X) → AllBelow time w (rows_below time w xs)
  rows_below-are_below w xs = Each-weaker _ _ (rows_below time w xs) (λ x k. ltb-true (time x) w k) (filter-passes _ xs)

  pub rows_from-are_from : (v : ℕ) (xs : List X) → AllFrom time v (rows_from time v xs)
  rows_from-are_from v xs = Each-weaker _ _ (rows_from time v xs) (λ x k. leb-true v (time x) k) (filter-passes _ xs)

  -- between two times is from the one and below the other
  pub rows_below-rows_from : (v w : ℕ) (xs : List X) → rows_below time w (rows_from time v xs) ≡ rows_between time v w xs
  rows_below-rows_from v w xs = filter-filter _ _ xs

  pub rows_below-rows_below : (v w : ℕ) (xs : List X) → v ≤ w → rows_below time v (rows_below time w xs) ≡ rows_below time v xs
  rows_below-rows_below v w xs le =
      filter-within _ _ (λ x k. lt-ltb (time x) w (below-both (time x) v w le k)) xs

  pub rows_from-rows_from : (u v : ℕ) (xs : List X) → u ≤ v → rows_from time v (rows_from time u xs) ≡ rows_from time v xs
  rows_from-rows_from u v xs le =
      filter-within _ _ (λ x k. le-leb u (time x) (from-both u v (time x) le k)) xs

  -- what is below w, and then what is from w on, is the whole of a list in order
  pub rows_below-append-rows_from : (w : ℕ) (xs : List X) → IsInOrder time xs → rows_below time w xs ++ rows_from time w xs ≡ xs
  rows_below-append-rows_from w [] h = refl
  rows_below-append-rows_from w (x ∷ xs) h =
      elim (ltb (time x) w) as (λ b. ltb (time x) w ≡ b → rows_below time w (x ∷ xs) ++ rows_from time w (x ∷ xs) ≡ x ∷ xs) [
        | true ↦ λ e.
            let lt : time x < w = ltb-true (time x) w e in
            ap (λ front. front ++ rows_from time w (x ∷ xs)) (filter-hit _ x xs e)
            ∙ ap (λ back. x ∷ (rows_below time w xs ++ back)) (filter-miss _ x xs (lt-leb w (time x) lt))
            ∙ ap (λ rest. x ∷ rest) (rows_below-append-rows_from w xs h.1)
        | false ↦ λ e.
            let le : w ≤ time x = ltb-false (time x) w e in
            let from : AllFrom time w (x ∷ xs) = (le, AllFrom-lower w (time x) xs le h.0) in
            ap (λ front. front ++ rows_from time w (x ∷ xs)) (rows_below-none w (x ∷ xs) from)
            ∙ rows_from-all w (x ∷ xs) from
      ] refl

  -- what is below v, and then what is from v to below w, is what is below w
  pub rows_below-append-rows_between : (v w : ℕ) (xs : List X) → v ≤ w → IsInOrder time xs
      → rows_below time v xs ++ rows_between time v w xs ≡ rows_below time w xs
  rows_below-append-rows_between v w xs le h =
      ap (λ back. rows_below time v xs ++ back) (sym (rows_below-rows_from v w xs))
      ∙ ap (λ front. front ++ rows_below time w (rows_from time v xs))
      (sym (rows_below-all w (rows_below time v xs) (AllBelow-higher v w _ le (rows_below-are_below v xs))))
      ∙ sym (filter-append _ (rows_below time v xs) (rows_from time v xs))
      ∙ ap (rows_below time w) (rows_below-append-rows_from v xs h)

  -- two stretches behind each other
  pub rows_between-append-rows_between : (u v w : ℕ) (xs : List X) → u ≤ v → v ≤ w → IsInOrder time xs
      → rows_between time u v xs ++ rows_between time v w xs ≡ rows_between time u w xs
  rows_between-append-rows_between u v w xs le le' h =
      let later : rows_between time v w (rows_from time u xs) ≡ rows_between time v w xs =
      sym (rows_below-rows_from v w (rows_from time u xs))
      ∙ ap (rows_below time w) (rows_from-rows_from u v xs le)
      ∙ rows_below-rows_from v w xs in
      ap (λ front. front ++ rows_between time v w xs) (sym (rows_below-rows_from u v xs))
      ∙ ap (λ back. rows_below time v (rows_from time u xs) ++ back) (sym later)
      ∙ rows_below-append-rows_between v w (rows_from time u xs) le' (IsInOrder-filter _ xs h)
      ∙ rows_below-rows_from u w xs

  -- of rows below w and new ones from w on
  pub rows_below-old : (w : ℕ) (old new : List X) → AllBelow time w old → AllFrom time w new
      → rows_below time w (old ++ new) ≡ old
  rows_below-old w old new b f =
      filter-append _ old new
      ∙ ap (λ front. front ++ rows_below time w new) (rows_below-all w old b)
      ∙ ap (λ back. old ++ back) (rows_below-none w new f)
      ∙ append-nil old

  pub rows_from-new : (w : ℕ) (old new : List X) → AllBelow time w old → AllFrom time w new
      → rows_from time w (old ++ new) ≡ new
  rows_from-new w old new b f =
      filter-append _ old new
      ∙ ap (λ front. front ++ rows_from time w new) (rows_from-none w old b)
      ∙ rows_from-all w new f

  pub rows_between-new : (v w : ℕ) (old new : List X) → AllBelow time v old → AllFrom time v new
      → AllBelow time w new → rows_between time v w (old ++ new) ≡ new
  rows_between-new v w old new b f b' =
      sym (rows_below-rows_from v w (old ++ new))
      ∙ ap (rows_below time w) (rows_from-new v old new b f)
      ∙ rows_below-all w new b'

-- a map that keeps the time keeps the order
pub IsInOrder-map : {X Y : Type 0} (time : X → ℕ) (later : Y → ℕ) (f : X → Y) → ((x : X) → later (f x) ≡ time x)
    → (xs : List X) → IsInOrder time xs → IsInOrder later (map f xs)
IsInOrder-map time later f same [] h = tt
IsInOrder-map time later f same (x ∷ xs) h = (
  Each-map _ f xs (Each-weaker _ _ xs (λ y le. omega (arith, same x, same y)) h.0),
  IsInOrder-map time later f same xs h.1,
)
