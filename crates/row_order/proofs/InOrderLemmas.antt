-- The list in order of time.
use Rattle.std.proofs.Common.{◌≡◌, ℕ, ◌≤◌, ◌<◌, ◌+◌, ◌⊎◌, inl, inr, Bool, true, false, cond, eqb, leb, List, [], ◌∷◌, ◌++◌}
use Rattle.std.proofs.Common.{filter, map, length, refl, ap, sym, ◌∙◌, arith}
use Rattle.std.specs.List.{AllByRecursion}
use Rattle.std.proofs.lemmas.Bool.{le-leb, lt-leb, cases_order, cases_lt}
use Rattle.std.proofs.lemmas.List.Elements.{filter-append}
use Rattle.row_order.specs.InOrder.{AllFrom, AllBelow, IsInOrder, IsStableOrder, insertion, in_order}
use Rattle.row_order.specs.Stretches.{rows_at}
use Rattle.row_order.proofs.ListLemmas.{filter-swap}
use Rattle.row_order.proofs.StretchLemmas.{AllFrom-lower, IsInOrder-filter, IsInOrder-append}
use Rattle.row_order.proofs.StretchLemmas.{rows_at-hit, rows_at-miss, rows_at-none}

module _ {X : Type 0} (time : X → ℕ) where
  insertion-here : (x y : X) (ys : List X) → time x ≤ time y → insertion time x (y ∷ ys) ≡ x ∷ y ∷ ys
  insertion-here x y ys h = ap (λ b. cond b (x ∷ y ∷ ys) (y ∷ insertion time x ys)) (le-leb (time x) (time y) h)

  insertion-later : (x y : X) (ys : List X) → time y < time x → insertion time x (y ∷ ys) ≡ y ∷ insertion time x ys
  insertion-later x y ys h = ap (λ b. cond b (x ∷ y ∷ ys) (y ∷ insertion time x ys)) (lt-leb (time x) (time y) h)

  Each-insertion : (P : X → Type 0) (x : X) (ys : List X) → P x → AllByRecursion P ys → AllByRecursion P (insertion time x ys)
  Each-insertion P x [] h k = (h, tt)
  Each-insertion P x (y ∷ ys) h k =
      elim (leb (time x) (time y)) as (λ b. AllByRecursion P (cond b (x ∷ y ∷ ys) (y ∷ insertion time x ys))) [
        | true ↦ (h, k)
        | false ↦ (k.0, Each-insertion P x ys h k.1)
      ]

  -- what holds of each element holds of each in order
  pub Each-in_order : (P : X → Type 0) (xs : List X) → AllByRecursion P xs → AllByRecursion P (in_order time xs)
  Each-in_order P [] h = tt
  Each-in_order P (x ∷ xs) h = Each-insertion P x (in_order time xs) h.0 (Each-in_order P xs h.1)

  IsInOrder-insertion : (x : X) (ys : List X) → IsInOrder time ys → IsInOrder time (insertion time x ys)
  IsInOrder-insertion x [] h = (tt, tt)
  IsInOrder-insertion x (y ∷ ys) h = by_order (cases_lt (time y) (time x)) (IsInOrder-insertion x ys h.1)
    where
      by_order : (time y < time x) ⊎ (time x ≤ time y) → IsInOrder time (insertion time x ys) → IsInOrder time (insertion time x (y ∷ ys))
      by_order (inl lt) rest = rw (insertion-later x y ys lt) (Each-insertion _ x ys (omega arith) h.0, rest)
      by_order (inr le) rest = rw (insertion-here x y ys le) ((le, AllFrom-lower time (time x) (time y) ys le h.0), h)

  pub IsInOrder-in_order : (xs : List X) → IsInOrder time (in_order time xs)
  IsInOrder-in_order [] = tt
  IsInOrder-in_order (x ∷ xs) = IsInOrder-insertion x (in_order time xs) (IsInOrder-in_order xs)

  -- what is inserted is the first of its time
  rows_at-insertion_hit : (t : ℕ) (x : X) (ys : List X) → time x ≡ t → rows_at time t (insertion time x ys) ≡ x ∷ rows_at time t ys
  rows_at-insertion_hit t x [] h = rows_at-hit time t x [] h
  rows_at-insertion_hit t x (y ∷ ys) h = by_order (cases_lt (time y) (time x)) (rows_at-insertion_hit t x ys h)
    where
      by_order : (time y < time x) ⊎ (time x ≤ time y) → rows_at time t (insertion time x ys) ≡ x ∷ rows_at time t ys → rows_at time t (insertion time x (y ∷ ys)) ≡ x ∷ rows_at time t (y ∷ ys)
      by_order (inl lt) rest =
          ap (rows_at time t) (insertion-later x y ys lt)
          ∙ rows_at-miss time t y (insertion time x ys) (λ e. absurd (omega arith))
          ∙ rest
          ∙ ap (λ l. x ∷ l) (sym (rows_at-miss time t y ys (λ e. absurd (omega arith))))
      by_order (inr le) rest = ap (rows_at time t) (insertion-here x y ys le) ∙ rows_at-hit time t x (y ∷ ys) h

  rows_at-insertion_miss : (t : ℕ) (x : X) (ys : List X) → (time x ≡ t → ⊥) → rows_at time t (insertion time x ys) ≡ rows_at time t ys
  rows_at-insertion_miss t x [] h = rows_at-miss time t x [] h
  rows_at-insertion_miss t x (y ∷ ys) h = by_order (cases_lt (time y) (time x)) (rows_at-insertion_miss t x ys h)
    where
      by_order : (time y < time x) ⊎ (time x ≤ time y) → rows_at time t (insertion time x ys) ≡ rows_at time t ys → rows_at time t (insertion time x (y ∷ ys)) ≡ rows_at time t (y ∷ ys)
      by_order (inl lt) rest =
          ap (rows_at time t) (insertion-later x y ys lt)
          ∙ ap (λ l. cond (eqb (time y) t) (y ∷ l) l) rest
      by_order (inr le) rest = ap (rows_at time t) (insertion-here x y ys le) ∙ rows_at-miss time t x (y ∷ ys) h

  -- elements of one time keep their order
  pub rows_at-in_order : (t : ℕ) (xs : List X) → rows_at time t (in_order time xs) ≡ rows_at time t xs
  rows_at-in_order t [] = refl
  rows_at-in_order t (x ∷ xs) = by_time (cases_order (time x) t) (rows_at-in_order t xs)
    where
      other : (time x ≡ t → ⊥) → rows_at time t (in_order time xs) ≡ rows_at time t xs → rows_at time t (in_order time (x ∷ xs)) ≡ rows_at time t (x ∷ xs)
      other ne rest = rows_at-insertion_miss t x (in_order time xs) ne ∙ rest ∙ sym (rows_at-miss time t x xs ne)

      by_time : (time x ≡ t) ⊎ ((time x < t) ⊎ (t < time x)) → rows_at time t (in_order time xs) ≡ rows_at time t xs → rows_at time t (in_order time (x ∷ xs)) ≡ rows_at time t (x ∷ xs)
      by_time (inl e) rest = rows_at-insertion_hit t x (in_order time xs) e ∙ ap (λ l. x ∷ l) rest ∙ sym (rows_at-hit time t x xs e)
      by_time (inr (inl lt)) rest = other (λ e. absurd (omega arith)) rest
      by_time (inr (inr lt)) rest = other (λ e. absurd (omega arith)) rest

  pub in_order-is_stable : (xs : List X) → IsStableOrder time xs (in_order time xs)
  in_order-is_stable xs = record { ordered = IsInOrder-in_order xs; same = λ t. rows_at-in_order t xs }

  abbrev tail_of : List X → List X
  tail_of [] = []
  tail_of (x ∷ xs) = xs

  -- two lists in order that agree at each time are one
  pub order-unique : (xs ys : List X) → IsInOrder time xs → IsInOrder time ys → ((t : ℕ) → rows_at time t xs ≡ rows_at time t ys) → xs ≡ ys
  order-unique [] [] h k same = refl
  order-unique [] (y ∷ ys) h k same = let e = same (time y) ∙ rows_at-hit time (time y) y ys refl in cc
  order-unique (x ∷ xs) [] h k same = let e = sym (same (time x)) ∙ rows_at-hit time (time x) x xs refl in cc
  order-unique (x ∷ xs) (y ∷ ys) h k same = by_head (cases_order (time x) (time y)) (λ rest. order-unique xs ys h.1 k.1 rest)
    where
      by_head : (time x ≡ time y) ⊎ ((time x < time y) ⊎ (time y < time x)) → (((t : ℕ) → rows_at time t xs ≡ rows_at time t ys) → xs ≡ ys) → ◌≡◌ {A = List X} (x ∷ xs) (y ∷ ys)
      by_head (inr (inl lt)) rest =
          let e = sym (rows_at-hit time (time x) x xs refl) ∙ same (time x) ∙ rows_at-miss time (time x) y ys (λ e. absurd (omega arith)) ∙ rows_at-none time (time x) (time y) ys lt k.0 in cc
      by_head (inr (inr lt)) rest =
          let e = sym (rows_at-hit time (time y) y ys refl) ∙ sym (same (time y)) ∙ rows_at-miss time (time y) x xs (λ e. absurd (omega arith)) ∙ rows_at-none time (time y) (time x) xs lt h.0 in cc
      by_head (inl e) rest =
          let heads = sym (rows_at-hit time (time x) x xs refl) ∙ same (time x) ∙ rows_at-hit time (time x) y ys (sym e) in
          let first : x ≡ y = cc in
          let tails : xs ≡ ys = rest (λ t. by_time t (cases_order (time x) t)) in
          cc
        where
          other : (t : ℕ) → (time x ≡ t → ⊥) → rows_at time t xs ≡ rows_at time t ys
          other t ne = sym (rows_at-miss time t x xs ne) ∙ same t ∙ rows_at-miss time t y ys (λ q. ne (e ∙ q))

          by_time : (t : ℕ) → (time x ≡ t) ⊎ ((time x < t) ⊎ (t < time x)) → rows_at time t xs ≡ rows_at time t ys
          by_time t (inl q) = ap tail_of (sym (rows_at-hit time t x xs q) ∙ same t ∙ rows_at-hit time t y ys (sym e ∙ q))
          by_time t (inr (inl q)) = other t (λ r. absurd (omega arith))
          by_time t (inr (inr q)) = other t (λ r. absurd (omega arith))

  pub in_order-only : (xs ys : List X) → IsStableOrder time xs ys → ys ≡ in_order time xs
  in_order-only xs ys s =
      order-unique ys (in_order time xs) s.ordered (IsInOrder-in_order xs) (λ t. s.same t ∙ sym (rows_at-in_order t xs))

  -- a list that is in order stays
  pub in_order-same : (xs : List X) → IsInOrder time xs → in_order time xs ≡ xs
  in_order-same xs h = sym (in_order-only xs xs (record { ordered = h; same = λ t. refl }))

  -- a filter may come before or after
  pub filter-in_order : (p : X → Bool) (xs : List X) → filter p (in_order time xs) ≡ in_order time (filter p xs)
  filter-in_order p xs = in_order-only (filter p xs) (filter p (in_order time xs)) (record {
    ordered = IsInOrder-filter time p (in_order time xs) (IsInOrder-in_order xs);
    same = λ t. filter-swap _ p (in_order time xs) ∙ ap (filter p) (rows_at-in_order t xs) ∙ filter-swap p _ xs;
  })

  -- the first of two lists may be put in order before
  pub in_order-front : (xs ys : List X) → in_order time (in_order time xs ++ ys) ≡ in_order time (xs ++ ys)
  in_order-front xs ys = in_order-only (xs ++ ys) (in_order time (in_order time xs ++ ys)) (record {
    ordered = IsInOrder-in_order (in_order time xs ++ ys);
    same = λ t. rows_at-in_order t (in_order time xs ++ ys) ∙ filter-append _ (in_order time xs) ys
        ∙ ap (λ l. l ++ rows_at time t ys) (rows_at-in_order t xs) ∙ sym (filter-append _ xs ys);
  })

  -- and so may the second
  pub in_order-back : (xs ys : List X) → in_order time (xs ++ in_order time ys) ≡ in_order time (xs ++ ys)
  in_order-back xs ys = in_order-only (xs ++ ys) (in_order time (xs ++ in_order time ys)) (record {
    ordered = IsInOrder-in_order (xs ++ in_order time ys);
    same = λ t. rows_at-in_order t (xs ++ in_order time ys) ∙ filter-append _ xs (in_order time ys)
        ∙ ap (λ l. rows_at time t xs ++ l) (rows_at-in_order t ys) ∙ sym (filter-append _ xs ys);
  })

  -- a list below w and one from w on are put in order apart
  pub in_order-append : (w : ℕ) (xs ys : List X) → AllBelow time w xs → AllFrom time w ys
      → in_order time (xs ++ ys) ≡ in_order time xs ++ in_order time ys
  in_order-append w xs ys b f = sym (in_order-only (xs ++ ys) (in_order time xs ++ in_order time ys) (record {
    ordered = IsInOrder-append time w (in_order time xs) (in_order time ys) (Each-in_order _ xs b) (Each-in_order _ ys f)
        (IsInOrder-in_order xs) (IsInOrder-in_order ys);
    same = λ t. filter-append _ (in_order time xs) (in_order time ys)
        ∙ ap (λ l. l ++ rows_at time t (in_order time ys)) (rows_at-in_order t xs)
        ∙ ap (λ l. rows_at time t xs ++ l) (rows_at-in_order t ys) ∙ sym (filter-append _ xs ys);
  }))

  length-insertion : (x : X) (ys : List X) → length (insertion time x ys) ≡ length ys + 1
  length-insertion x [] = omega arith
  length-insertion x (y ∷ ys) =
      elim (leb (time x) (time y)) as (λ b. length (cond b (x ∷ y ∷ ys) (y ∷ insertion time x ys)) ≡ length (y ∷ ys) + 1) [
        | true ↦ omega arith
        | false ↦ omega (arith, length-insertion x ys)
      ]

  pub length-in_order : (xs : List X) → length (in_order time xs) ≡ length xs
  length-in_order [] = refl
  length-in_order (x ∷ xs) = omega (arith, length-insertion x (in_order time xs), length-in_order xs)

module _ {X Y : Type 0} (time : X → ℕ) (later : Y → ℕ) (f : X → Y) (same : (x : X) → later (f x) ≡ time x) where
  map-insertion : (x : X) (ys : List X) → map f (insertion time x ys) ≡ insertion later (f x) (map f ys)
  map-insertion x [] = refl
  map-insertion x (y ∷ ys) =
      under (leb (time x) (time y))
      ∙ ap (λ l. cond (leb (time x) (time y)) (f x ∷ f y ∷ map f ys) (f y ∷ l)) (map-insertion x ys)
      ∙ ap (λ n. cond (leb n (time y)) (f x ∷ f y ∷ map f ys) (f y ∷ insertion later (f x) (map f ys))) (sym (same x))
      ∙ ap (λ n. cond (leb (later (f x)) n) (f x ∷ f y ∷ map f ys) (f y ∷ insertion later (f x) (map f ys))) (sym (same y))
    where
      under : (b : Bool) → map f (cond b (x ∷ y ∷ ys) (y ∷ insertion time x ys)) ≡ cond b (f x ∷ f y ∷ map f ys) (f y ∷ map f (insertion time x ys))
      under true = refl
      under false = refl

  -- a map that keeps the time may come before or after
  pub map-in_order : (xs : List X) → map f (in_order time xs) ≡ in_order later (map f xs)
  map-in_order [] = refl
  map-in_order (x ∷ xs) = map-insertion x (in_order time xs) ∙ ap (insertion later (f x)) (map-in_order xs)
