-- Lists in order of time that a test parts in two: what passes stands before what fails.
use Rattle.std.proofs.Common.{◌≡◌, ℕ, zero, suc, ◌<◌, ◌≤◌, Bool, true, false, not, ◌&&◌, List, [], ◌∷◌, length, get_or, take, drop, filter, refl, ap, ◌∙◌, arith, Option, Some, None, ℤ, pos, ◌+ℤ◌, ◌-ℤ◌, int_lt, int_le, nat_le, nat_lt}
use Rattle.std.specs.List.Sorted.{IsNonDecreasingBy, IsPartitionPoint, IsPartitionedBy}
use Rattle.std.proofs.lemmas.Bool.Decides.{nat_tests}
use Rattle.std.proofs.lemmas.Int.{ints}
use Rattle.event_value.specs.declared.record.Stamped.{Stamped}
use Rattle.row_order.proofs.ListLemmas.{Each-all, filter-alike, filter-filter, filter-hit, filter-miss}
use Rattle.row_order.specs.InOrder.{AllFrom, IsInOrder}
use Rattle.stream_joins.specs.Bound.{is_within}
use Rattle.stream_joins.specs.Snapshots.{last_place, place_with}

module _ {X : Type 0} (time : X → ℕ) where
  AllFrom-place : (n : ℕ) (xs : List X) (j : ℕ) (d : X) → AllFrom time n xs → j < length xs → n ≤ time (get_or xs j d)
  AllFrom-place n [] j d h lt = absurd (omega arith)
  AllFrom-place n (x ∷ xs) zero d h lt = h.0
  AllFrom-place n (x ∷ xs) (suc j) d h lt = AllFrom-place n xs j d h.1 (omega arith)

  pub IsInOrder-places : (xs : List X) → IsInOrder time xs → IsNonDecreasingBy time xs
  IsInOrder-places [] h i j d le lt = absurd (omega arith)
  IsInOrder-places (x ∷ xs) h zero zero d le lt = omega arith
  IsInOrder-places (x ∷ xs) h zero (suc j) d le lt = AllFrom-place (time x) xs j d h.0 (omega arith)
  IsInOrder-places (x ∷ xs) h (suc i) zero d le lt = absurd (omega arith)
  IsInOrder-places (x ∷ xs) h (suc i) (suc j) d le lt = IsInOrder-places xs h.1 i j d (omega arith) (omega arith)

  -- a test that what is earlier passes too parts a list in order
  pub IsPartitionedBy-in_order : (p : X → Bool) (xs : List X) → IsInOrder time xs
      → ((x y : X) → time x ≤ time y → p y ≡ true → p x ≡ true) → IsPartitionedBy p xs
  IsPartitionedBy-in_order p xs h earlier i j d le lt passes = earlier _ _ (IsInOrder-places xs h i j d le lt) passes

module _ {X : Type 0} (p : X → Bool) where
  abbrev IsPoint : List X → ℕ → Type 0
  IsPoint xs i = IsPartitionPoint (λ x. p x ≡ true) (λ x. p x ≡ false) xs i

  point-none : (x : X) (xs : List X) → IsPoint (x ∷ xs) 0 → IsPoint xs 0
  point-none x xs point = (λ k d a b. absurd (omega arith), λ k d a b. point.1 (suc k) d (omega arith) (omega arith))

  point-rest : (x : X) (xs : List X) (i : ℕ) → IsPoint (x ∷ xs) (suc i) → IsPoint xs i
  point-rest x xs i point = (λ k d a b. point.0 (suc k) d (omega arith) (omega arith), λ k d a b. point.1 (suc k) d (omega arith) (omega arith))

  -- what passes is the front, what fails the rest
  pub filter-point : (xs : List X) (i : ℕ) → i ≤ length xs → IsPoint xs i → filter p xs ≡ take i xs
  filter-point [] zero le point = refl
  filter-point [] (suc i) le point = absurd (omega arith)
  filter-point (x ∷ xs) zero le point = filter-miss p x xs (point.1 0 x (omega arith) (omega arith)) ∙ filter-point xs zero (omega arith) (point-none x xs point)
  filter-point (x ∷ xs) (suc i) le point =
      filter-hit p x xs (point.0 0 x (omega arith) (omega arith))
      ∙ ap (λ l. x ∷ l) (filter-point xs i (omega arith) (point-rest x xs i point))

  pub filter-point_rest : (xs : List X) (i : ℕ) → i ≤ length xs → IsPoint xs i → filter (λ x. not (p x)) xs ≡ drop i xs
  filter-point_rest [] zero le point = refl
  filter-point_rest [] (suc i) le point = absurd (omega arith)
  filter-point_rest (x ∷ xs) zero le point =
      filter-hit _ x xs (ap not (point.1 0 x (omega arith) (omega arith)))
      ∙ ap (λ l. x ∷ l) (filter-point_rest xs zero (omega arith) (point-none x xs point))
  filter-point_rest (x ∷ xs) (suc i) le point =
      filter-miss _ x xs (ap not (point.0 0 x (omega arith) (omega arith)))
      ∙ filter-point_rest xs i (omega arith) (point-rest x xs i point)

  -- the place before a number of elements
  abbrev pub place_before : ℕ → Option ℕ
  place_before zero = None
  place_before (suc n) = Some n

  -- the last that passes stands before the first that fails
  pub last_place-point : (xs : List X) (i : ℕ) → i ≤ length xs → IsPoint xs i → last_place p xs ≡ place_before i
  last_place-point [] zero le point = refl
  last_place-point [] (suc i) le point = absurd (omega arith)
  last_place-point (x ∷ xs) zero le point =
      ap (λ o. place_with (p x) o) (last_place-point xs zero (omega arith) (point-none x xs point))
      ∙ ap (λ b. place_with b None) (point.1 0 x (omega arith) (omega arith))
  last_place-point (x ∷ xs) (suc zero) le point =
      ap (λ o. place_with (p x) o) (last_place-point xs zero (omega arith) (point-rest x xs zero point))
      ∙ ap (λ b. place_with b None) (point.0 0 x (omega arith) (omega arith))
  last_place-point (x ∷ xs) (suc (suc i)) le point =
      ap (λ o. place_with (p x) o) (last_place-point xs (suc i) (omega arith) (point-rest x xs (suc i) point))

  pub last_place-below : (xs : List X) (i : ℕ) → last_place p xs ≡ Some i → i < length xs
  last_place-below [] i e = cc
  last_place-below (x ∷ xs) i e = by (λ j. last_place-below xs j) (p x) (last_place p xs) refl e
    where
      by : ((j : ℕ) → last_place p xs ≡ Some j → j < length xs) → (b : Bool) (o : Option ℕ) → last_place p xs ≡ o → place_with b o ≡ Some i → i < length (x ∷ xs)
      by rest true None h k = let e : 0 ≡ i = cc in omega arith
      by rest false None h k = cc
      by rest true (Some j) h k = let lt : j < length xs = rest j h in let e : suc j ≡ i = cc in omega arith
      by rest false (Some j) h k = let lt : j < length xs = rest j h in let e : suc j ≡ i = cc in omega arith

not-before : (n t : ℕ) (low : ℤ) → not (int_lt (pos n) (pos t +ℤ low)) ≡ int_le low (pos n -ℤ pos t)
not-before n t low = grind (arith, ints)

not-after : (n t : ℕ) (high : ℤ) → int_le (pos n) (pos t +ℤ high) ≡ int_le (pos n -ℤ pos t) high
not-after n t high = grind (arith, ints)

-- the rows within two lengths of a time
pub within-parts : (low high : ℤ) (t : ℕ) (rows : List Stamped)
    → filter (λ b. int_le (pos b.time) (pos t +ℤ high)) (filter (λ b. not (int_lt (pos b.time) (pos t +ℤ low))) rows)
    ≡ filter (is_within low high t) rows
within-parts low high t rows =
    filter-filter _ _ rows
    ∙ filter-alike _ _ rows (Each-all _ (λ b. ap (λ (c : Bool). c && int_le (pos b.time) (pos t +ℤ high)) (not-before b.time t low) ∙ ap (λ (c : Bool). int_le low (pos b.time -ℤ pos t) && c) (not-after b.time t high)) rows)

pub earlier-before : (bound : ℤ) (x y : Stamped) → x.time ≤ y.time → int_lt (pos y.time) bound ≡ true → int_lt (pos x.time) bound ≡ true
earlier-before bound x y le h = grind (arith, ints)

pub earlier-within : (bound : ℤ) (x y : Stamped) → x.time ≤ y.time → int_le (pos y.time) bound ≡ true → int_le (pos x.time) bound ≡ true
earlier-within bound x y le h = grind (arith, ints)

pub earlier-force : (t : ℕ) (x y : ℕ) → x ≤ y → nat_le y t ≡ true → nat_le x t ≡ true
earlier-force t x y le h = grind (arith, nat_tests)

pub earlier-than : (bound : ℕ) (x y : Stamped) → x.time ≤ y.time → nat_lt y.time bound ≡ true → nat_lt x.time bound ≡ true
earlier-than bound x y le h = grind (arith, nat_tests)
