-- What a stable sort by time leaves is the list in order of time.
use Rattle.std.proofs.Common.{◌≡◌, ℕ, suc, ◌≤◌, ◌<◌, Bool, true, false, not, eqb, ◌&&◌, List, [], ◌∷◌, length, get_or}
use Rattle.std.proofs.Common.{refl, ap, sym, ◌∙◌, arith}
use Rattle.std.proofs.lemmas.Bool.{eqb-true, eqb-false}
use Rattle.std.proofs.lemmas.Bool.Decides.{nat_tests}
use Rattle.std.proofs.lemmas.List.Elements.{filter_agree}
use Rattle.std.specs.List.Sorted.{IsNonDecreasingBy, IsStableByKey, ties}
use Rattle.std.specs.Ordering.{nat_cmp, is_lt}
use Rattle.row_order.specs.InOrder.{in_order, AllFrom, IsInOrder}
use Rattle.row_order.specs.Stretches.{rows_at}
use Rattle.row_order.proofs.StretchLemmas.{rows_at-hit, rows_at-miss}
use Rattle.row_order.proofs.InOrderLemmas.{in_order-only}

-- two times tie exactly where they are equal
ties-eqb : (a b : ℕ) → (not (is_lt (nat_cmp a b)) && not (is_lt (nat_cmp b a))) ≡ eqb b a
ties-eqb a b = grind (arith, nat_tests)

module _ {X : Type 0} (time : X → ℕ) where
  AllFrom-by_place : (n : ℕ) (xs : List X) → ((j : ℕ) (d : X) → j < length xs → n ≤ time (get_or xs j d)) → AllFrom time n xs
  AllFrom-by_place n [] h = tt
  AllFrom-by_place n (x ∷ xs) h = (h 0 x (omega arith), AllFrom-by_place n xs (λ j d lt. h (suc j) d (omega arith)))

  pub IsInOrder-by_place : (xs : List X) → IsNonDecreasingBy time xs → IsInOrder time xs
  IsInOrder-by_place [] h = tt
  IsInOrder-by_place (x ∷ xs) h = (
    AllFrom-by_place (time x) xs (λ j d lt. h 0 (suc j) d (omega arith) (omega arith)),
    IsInOrder-by_place xs (λ i j d le lt. h (suc i) (suc j) d (omega arith) (omega arith)),
  )

  -- the elements at t are at t
  rows_at-time : (t : ℕ) (xs : List X) (y : X) (ys : List X) → rows_at time t xs ≡ y ∷ ys → time y ≡ t
  rows_at-time t [] y ys h = cc
  rows_at-time t (x ∷ xs) y ys h = by_test (eqb (time x) t) refl (λ g. rows_at-time t xs y ys g)
    where
      by_test : (b : Bool) → eqb (time x) t ≡ b → (rows_at time t xs ≡ y ∷ ys → time y ≡ t) → time y ≡ t
      by_test true e rest =
          let here = sym (rows_at-hit time t x xs (eqb-true (time x) t e)) ∙ h in
          let same : x ≡ y = cc in
          ap time (sym same) ∙ eqb-true (time x) t e
      by_test false e rest = rest (sym (rows_at-miss time t x xs (eqb-false (time x) t e)) ∙ h)

  pub stable-in_order : (xs ys : List X) → IsNonDecreasingBy time ys → IsStableByKey time nat_cmp xs ys → ys ≡ in_order time xs
  stable-in_order xs ys up stable = in_order-only time xs ys (record {
    ordered = IsInOrder-by_place ys up;
    same = λ t. by_first t (rows_at time t ys) (rows_at time t xs) refl refl;
  })
    where
      each : (x : X) → rows_at time (time x) ys ≡ rows_at time (time x) xs
      each x =
          sym (filter_agree (ties (λ a b. is_lt (nat_cmp (time a) (time b))) x) _ (λ y. ties-eqb (time x) (time y)) ys)
          ∙ stable x
          ∙ filter_agree (ties (λ a b. is_lt (nat_cmp (time a) (time b))) x) _ (λ y. ties-eqb (time x) (time y)) xs

      by_first : (t : ℕ) (l m : List X) → rows_at time t ys ≡ l → rows_at time t xs ≡ m → rows_at time t ys ≡ rows_at time t xs
      by_first t (y ∷ l) m e f = let g = rows_at-time t ys y l e in ap (λ s. rows_at time s ys) (sym g) ∙ each y ∙ ap (λ s. rows_at time s xs) g
      by_first t [] (x ∷ m) e f = let g = rows_at-time t xs x m f in ap (λ s. rows_at time s ys) (sym g) ∙ each x ∙ ap (λ s. rows_at time s xs) g
      by_first t [] [] e f = e ∙ sym f
