-- Two lists in order as one.
use Rattle.std.proofs.Common.{◌≡◌, ℕ, ◌≤◌, ◌<◌, ◌⊎◌, inl, inr, Bool, true, false, cond, leb, eqb, List, [], ◌∷◌, ◌++◌}
use Rattle.std.proofs.Common.{filter, refl, ap, sym, ◌∙◌, arith}
use Rattle.std.specs.List.{AllByRecursion}
use Rattle.std.proofs.lemmas.Bool.{le-leb, lt-leb, cases_lt, eqb-true}
use Rattle.std.proofs.lemmas.List.Elements.{filter-append}
use Rattle.row_order.specs.InOrder.{AllFrom, AllBelow, IsInOrder, in_order}
use Rattle.row_order.specs.Merge.{merge, merge_at}
use Rattle.row_order.specs.Stretches.{rows_at, rows_between}
use Rattle.row_order.proofs.StretchLemmas.{AllFrom-lower, IsInOrder-filter, rows_at-none, rows_between-new}
use Rattle.row_order.proofs.InOrderLemmas.{in_order-only, filter-in_order}

module _ {X : Type 0} (time : X → ℕ) where
  Each-merge_at : (P : X → Type 0) (x : X) (rest : List X → List X) → P x
      → ((zs : List X) → AllByRecursion P zs → AllByRecursion P (rest zs))
      → (ys : List X) → AllByRecursion P ys → AllByRecursion P (merge_at time x rest ys)
  Each-merge_at P x rest h keeps [] k = (h, keeps [] tt)
  Each-merge_at P x rest h keeps (y ∷ ys) k =
      elim (leb (time x) (time y)) as (λ b. AllByRecursion P (cond b (x ∷ rest (y ∷ ys)) (y ∷ merge_at time x rest ys))) [
        | true ↦ (h, keeps (y ∷ ys) k)
        | false ↦ (k.0, Each-merge_at P x rest h keeps ys k.1)
      ]

  pub Each-merge : (P : X → Type 0) (xs ys : List X) → AllByRecursion P xs → AllByRecursion P ys → AllByRecursion P (merge time xs ys)
  Each-merge P [] ys h k = k
  Each-merge P (x ∷ xs) ys h k = Each-merge_at P x (merge time xs) h.0 (λ zs l. Each-merge P xs zs h.1 l) ys k

  merge_at-here : (x : X) (rest : List X → List X) (y : X) (ys : List X) → time x ≤ time y
      → merge_at time x rest (y ∷ ys) ≡ x ∷ rest (y ∷ ys)
  merge_at-here x rest y ys h = ap (λ b. cond b (x ∷ rest (y ∷ ys)) (y ∷ merge_at time x rest ys)) (le-leb (time x) (time y) h)

  merge_at-later : (x : X) (rest : List X → List X) (y : X) (ys : List X) → time y < time x
      → merge_at time x rest (y ∷ ys) ≡ y ∷ merge_at time x rest ys
  merge_at-later x rest y ys h = ap (λ b. cond b (x ∷ rest (y ∷ ys)) (y ∷ merge_at time x rest ys)) (lt-leb (time x) (time y) h)

  IsInOrder-merge_at : (x : X) (xs : List X) → AllFrom time (time x) xs
      → ((zs : List X) → IsInOrder time zs → IsInOrder time (merge time xs zs))
      → (ys : List X) → IsInOrder time ys → IsInOrder time (merge_at time x (merge time xs) ys)
  IsInOrder-merge_at x xs h keeps [] k = (Each-merge _ xs [] h tt, keeps [] tt)
  IsInOrder-merge_at x xs h keeps (y ∷ ys) k = by_order (cases_lt (time y) (time x)) (IsInOrder-merge_at x xs h keeps ys k.1)
    where
      by_order : (time y < time x) ⊎ (time x ≤ time y) → IsInOrder time (merge_at time x (merge time xs) ys)
          → IsInOrder time (merge_at time x (merge time xs) (y ∷ ys))
      by_order (inl lt) rest =
          rw (merge_at-later x (merge time xs) y ys lt)
          (Each-merge_at _ x (merge time xs) (omega arith) (λ zs l. Each-merge _ xs zs (AllFrom-lower time (time y) (time x) xs (omega arith) h) l) ys k.0, rest)
      by_order (inr le) rest =
          rw (merge_at-here x (merge time xs) y ys le)
          (Each-merge _ xs (y ∷ ys) h (le, AllFrom-lower time (time x) (time y) ys le k.0), keeps (y ∷ ys) k)

  pub IsInOrder-merge : (xs ys : List X) → IsInOrder time xs → IsInOrder time ys → IsInOrder time (merge time xs ys)
  IsInOrder-merge [] ys h k = k
  IsInOrder-merge (x ∷ xs) ys h k = IsInOrder-merge_at x xs h.0 (λ zs o. IsInOrder-merge xs zs h.1 o) ys k

  cond-front : (b : Bool) (y : X) (us vs : List X) → (b ≡ true → us ≡ []) → cond b (y ∷ (us ++ vs)) (us ++ vs) ≡ us ++ cond b (y ∷ vs) vs
  cond-front true y us vs none =
      ap (λ l. y ∷ (l ++ vs)) (none refl) ∙ ap (λ l. l ++ (y ∷ vs)) (sym (none refl))
  cond-front false y us vs none = refl

  cond-append : (b : Bool) (x : X) (us vs : List X) → cond b (x ∷ (us ++ vs)) (us ++ vs) ≡ cond b (x ∷ us) us ++ vs
  cond-append true x us vs = refl
  cond-append false x us vs = refl

  rows_at-merge_at : (t : ℕ) (x : X) (xs : List X) → AllFrom time (time x) xs
      → ((zs : List X) → rows_at time t (merge time xs zs) ≡ rows_at time t xs ++ rows_at time t zs)
      → (ys : List X) → rows_at time t (merge_at time x (merge time xs) ys) ≡ rows_at time t (x ∷ xs) ++ rows_at time t ys
  rows_at-merge_at t x xs h keeps [] =
      ap (λ l. cond (eqb (time x) t) (x ∷ l) l) (keeps []) ∙ cond-append (eqb (time x) t) x (rows_at time t xs) []
  rows_at-merge_at t x xs h keeps (y ∷ ys) = by_order (cases_lt (time y) (time x)) (rows_at-merge_at t x xs h keeps ys)
    where
      by_order : (time y < time x) ⊎ (time x ≤ time y)
          → rows_at time t (merge_at time x (merge time xs) ys) ≡ rows_at time t (x ∷ xs) ++ rows_at time t ys
          → rows_at time t (merge_at time x (merge time xs) (y ∷ ys)) ≡ rows_at time t (x ∷ xs) ++ rows_at time t (y ∷ ys)
      by_order (inl lt) rest =
          ap (rows_at time t) (merge_at-later x (merge time xs) y ys lt)
          ∙ ap (λ l. cond (eqb (time y) t) (y ∷ l) l) rest
          ∙ cond-front (eqb (time y) t) y (rows_at time t (x ∷ xs)) (rows_at time t ys)
          (λ e. rows_at-none time t (time x) (x ∷ xs) (omega (arith, eqb-true (time y) t e)) (omega arith, h))
      by_order (inr le) rest =
          ap (rows_at time t) (merge_at-here x (merge time xs) y ys le)
          ∙ ap (λ l. cond (eqb (time x) t) (x ∷ l) l) (keeps (y ∷ ys))
          ∙ cond-append (eqb (time x) t) x (rows_at time t xs) (rows_at time t (y ∷ ys))

  -- at each time the first list's elements come first
  pub rows_at-merge : (t : ℕ) (xs ys : List X) → IsInOrder time xs → rows_at time t (merge time xs ys) ≡ rows_at time t xs ++ rows_at time t ys
  rows_at-merge t [] ys h = refl
  rows_at-merge t (x ∷ xs) ys h = rows_at-merge_at t x xs h.0 (λ zs. rows_at-merge t xs zs h.1) ys

  -- it is both lists behind each other, put in order
  pub merge-in_order : (xs ys : List X) → IsInOrder time xs → IsInOrder time ys → merge time xs ys ≡ in_order time (xs ++ ys)
  merge-in_order xs ys h k = in_order-only time (xs ++ ys) (merge time xs ys) (record {
    ordered = IsInOrder-merge xs ys h k;
    same = λ t. rows_at-merge t xs ys h ∙ sym (filter-append _ xs ys);
  })

  -- a filter may come before or after
  pub filter-merge : (p : X → Bool) (xs ys : List X) → IsInOrder time xs → IsInOrder time ys
      → filter p (merge time xs ys) ≡ merge time (filter p xs) (filter p ys)
  filter-merge p xs ys h k =
      ap (filter p) (merge-in_order xs ys h k)
      ∙ filter-in_order time p (xs ++ ys)
      ∙ ap (in_order time) (filter-append p xs ys)
      ∙ sym (merge-in_order (filter p xs) (filter p ys) (IsInOrder-filter time p xs h) (IsInOrder-filter time p ys k))

  pub merge-nil : (xs : List X) → merge time xs [] ≡ xs
  merge-nil [] = refl
  merge-nil (x ∷ xs) = ap (λ l. x ∷ l) (merge-nil xs)

  -- new rows of both lists, merged, are the stretch of all of both
  pub merge-new : (v w : ℕ) (left new_left right new_right : List X)
      → AllBelow time v left → AllFrom time v new_left → AllBelow time w new_left
      → AllBelow time v right → AllFrom time v new_right → AllBelow time w new_right
      → IsInOrder time (left ++ new_left) → IsInOrder time (right ++ new_right)
      → rows_between time v w (merge time (left ++ new_left) (right ++ new_right)) ≡ merge time new_left new_right
  merge-new v w left new_left right new_right b f b' c g c' h k =
      filter-merge _ (left ++ new_left) (right ++ new_right) h k
      ∙ ap (λ l. merge time l (rows_between time v w (right ++ new_right))) (rows_between-new time v w left new_left b f b')
      ∙ ap (merge time new_left) (rows_between-new time v w right new_right c g c')
