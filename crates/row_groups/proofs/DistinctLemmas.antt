-- Lists put in an order, of what ties only the first.
use Rattle.std.proofs.Common.{◌≡◌, Bool, true, false, cond, ◌||◌, List, [], ◌∷◌, ◌++◌, filter, refl, sym, ap, subst, ◌∙◌}
use Rattle.std.specs.BTreeSet.{insert_key}
use Rattle.std.specs.Cmp.{IsTotalOrder}
use Rattle.std.specs.List.{list_any}
use Rattle.std.specs.List.{AllByRecursion as Each}
use Rattle.std.specs.Ordering.{is_eq, match_ordering, ordering_reverse}
use Rattle.std.specs.declared.cmp.Ordering.{Ordering}
use Rattle.std.specs.declared.cmp.Ordering.TheVariants.{Less, Equal, Greater}
use Rattle.std.proofs.lemmas.Cmp.{alike_right, tied_itself}
use Rattle.row_order.proofs.ListLemmas.{Each-filter, Each-weaker}
use Rattle.row_groups.specs.Distinct.{Rises, distinct, with_each}

module _ {A : Type 0} (R : A → A → Ordering) where
  pub with_each-append : (places xs ys : List A) → with_each R places (xs ++ ys) ≡ with_each R (with_each R places xs) ys
  with_each-append places [] ys = refl
  with_each-append places (x ∷ xs) ys = with_each-append (insert_key R places x) xs ys

  pub distinct-append : (xs ys : List A) → distinct R (xs ++ ys) ≡ with_each R (distinct R xs) ys
  distinct-append xs ys = with_each-append [] xs ys

  pub Each-insert_key : (P : A → Type 0) (a : A) (bs : List A) → P a → Each P bs → Each P (insert_key R bs a)
  Each-insert_key P a [] pa h = (pa, tt)
  Each-insert_key P a (b ∷ bs) pa h =
      elim (R a b) as (λ o. Each P (match_ordering o (a ∷ b ∷ bs) (b ∷ bs) (b ∷ insert_key R bs a))) [
        | Less ↦ (pa, h)
        | Equal ↦ h
        | Greater ↦ (h.0, Each-insert_key P a bs pa h.1)
      ]

  Each-with_each : (P : A → Type 0) (places xs : List A) → Each P places → Each P xs → Each P (with_each R places xs)
  Each-with_each P places [] h k = h
  Each-with_each P places (x ∷ xs) h k = Each-with_each P (insert_key R places x) xs (Each-insert_key P x places k.0 h) k.1

  -- what holds of each element holds of the different ones
  pub Each-distinct : (P : A → Type 0) (xs : List A) → Each P xs → Each P (distinct R xs)
  Each-distinct P xs h = Each-with_each P [] xs tt h

  insert_key-first : (a : A) (bs : List A) → Each (λ b. R a b ≡ Less) bs → insert_key R bs a ≡ a ∷ bs
  insert_key-first a [] h = refl
  insert_key-first a (b ∷ bs) h = ap (λ o. match_ordering o (a ∷ b ∷ bs) (b ∷ bs) (b ∷ insert_key R bs a)) h.0

  module _ (total : IsTotalOrder R) where
    less_back : (a b : A) → R a b ≡ Greater → R b a ≡ Less
    less_back a b e = total.antisymm b a ∙ ap ordering_reverse e

    pub Rises-insert_key : (a : A) (bs : List A) → Rises R bs → Rises R (insert_key R bs a)
    Rises-insert_key a [] h = (tt, tt)
    Rises-insert_key a (b ∷ bs) h =
        elim (R a b) as (λ o. R a b ≡ o → Rises R (match_ordering o (a ∷ b ∷ bs) (b ∷ bs) (b ∷ insert_key R bs a))) [
          | Less ↦ λ e. ((e, Each-weaker _ _ bs (λ c l. total.trans a b c e l) h.0), h)
          | Equal ↦ λ e. h
          | Greater ↦ λ e. (Each-insert_key _ a bs (less_back a b e) h.0, Rises-insert_key a bs h.1)
        ] refl

    Rises-with_each : (places xs : List A) → Rises R places → Rises R (with_each R places xs)
    Rises-with_each places [] h = h
    Rises-with_each places (x ∷ xs) h = Rises-with_each (insert_key R places x) xs (Rises-insert_key x places h)

    pub Rises-distinct : (xs : List A) → Rises R (distinct R xs)
    Rises-distinct xs = Rises-with_each [] xs tt

    pub Rises-filter : (p : A → Bool) (xs : List A) → Rises R xs → Rises R (filter p xs)
    Rises-filter p [] h = tt
    Rises-filter p (x ∷ xs) h =
        elim (p x) as (λ b. Rises R (cond b (x ∷ filter p xs) (filter p xs))) [
          | true ↦ (Each-filter _ p xs h.0, Rises-filter p xs h.1)
          | false ↦ Rises-filter p xs h.1
        ]

    -- a filter that tells apart nothing that ties goes before or after
    module _ (p : A → Bool) (alike : (a b : A) → R a b ≡ Equal → p a ≡ p b) where
      filter-insert_key : (a : A) (bs : List A) → Rises R bs → filter p (insert_key R bs a) ≡ cond (p a) (insert_key R (filter p bs) a) (filter p bs)
      filter-insert_key a [] h = refl
      filter-insert_key a (b ∷ bs) h =
          elim (R a b) as (λ o. R a b ≡ o → filter p (match_ordering o (a ∷ b ∷ bs) (b ∷ bs) (b ∷ insert_key R bs a)) ≡ cond (p a) (insert_key R (filter p (b ∷ bs)) a) (filter p (b ∷ bs))) [
            | Less ↦ λ e.
                let first = insert_key-first a (filter p (b ∷ bs)) (Each-filter _ p (b ∷ bs) (e, Each-weaker _ _ bs (λ c l. total.trans a b c e l) h.0)) in
                ap (λ r. cond (p a) r (filter p (b ∷ bs))) (sym first)
            | Equal ↦ λ e.
                elim (p a) as (λ t. p a ≡ t → filter p (b ∷ bs) ≡ cond t (insert_key R (filter p (b ∷ bs)) a) (filter p (b ∷ bs))) [
                  | true ↦ λ pa.
                      let pb = sym (alike a b e) ∙ pa in
                      let keeps : filter p (b ∷ bs) ≡ b ∷ filter p bs = ap (λ t. cond t (b ∷ filter p bs) (filter p bs)) pb in
                      keeps
                      ∙ sym (ap (λ o. match_ordering o (a ∷ b ∷ filter p bs) (b ∷ filter p bs) (b ∷ insert_key R (filter p bs) a)) e)
                      ∙ ap (λ r. insert_key R r a) (sym keeps)
                  | false ↦ λ pa. refl
                ] refl
            | Greater ↦ λ e.
                elim (p b) as (λ t. cond t (b ∷ filter p (insert_key R bs a)) (filter p (insert_key R bs a)) ≡ cond (p a) (insert_key R (cond t (b ∷ filter p bs) (filter p bs)) a) (cond t (b ∷ filter p bs) (filter p bs))) [
                  | true ↦ ap (λ r. b ∷ r) (filter-insert_key a bs h.1) ∙ under (p a) (insert_key R (filter p bs) a) (filter p bs)
                      ∙ ap (λ r. cond (p a) r (b ∷ filter p bs)) (sym (ap (λ o. match_ordering o (a ∷ b ∷ filter p bs) (b ∷ filter p bs) (b ∷ insert_key R (filter p bs) a)) e))
                  | false ↦ filter-insert_key a bs h.1
                ]
          ] refl
        where
          under : (t : Bool) (u v : List A) → ◌≡◌ {A = List A} (b ∷ cond t u v) (cond t (b ∷ u) (b ∷ v))
          under true u v = refl
          under false u v = refl

      filter-with_each : (places xs : List A) → Rises R places → filter p (with_each R places xs) ≡ with_each R (filter p places) (filter p xs)
      filter-with_each places [] h = refl
      filter-with_each places (x ∷ xs) h =
          filter-with_each (insert_key R places x) xs (Rises-insert_key x places h)
          ∙ ap (λ r. with_each R r (filter p xs)) (filter-insert_key x places h)
          ∙ elim (p x) as (λ t. with_each R (cond t (insert_key R (filter p places) x) (filter p places)) (filter p xs) ≡ with_each R (filter p places) (cond t (x ∷ filter p xs) (filter p xs))) [ true ↦ refl | false ↦ refl ]

      pub filter-distinct : (xs : List A) → filter p (distinct R xs) ≡ distinct R (filter p xs)
      filter-distinct xs = filter-with_each [] xs tt

module _ {A : Type 0} (R : A → A → Ordering) (total : IsTotalOrder R) where
  -- whether one ties with a
  abbrev pub any_ties : A → List A → Bool
  any_ties a bs = list_any (λ b. is_eq (R a b)) bs

  or-again : (a b c : Bool) → a ≡ b → (a || c) ≡ (b || (a || c))
  or-again true true c e = refl
  or-again true false c e = cc
  or-again false true c e = cc
  or-again false false c e = refl

  or-swap : (a b c : Bool) → (a || (b || c)) ≡ (b || (a || c))
  or-swap true true c = refl
  or-swap true false c = refl
  or-swap false b c = refl

  any_ties-insert_key : (k a : A) (bs : List A) → any_ties k (insert_key R bs a) ≡ (is_eq (R k a) || any_ties k bs)
  any_ties-insert_key k a [] = refl
  any_ties-insert_key k a (b ∷ bs) =
      elim (R a b) as (λ o. R a b ≡ o → any_ties k (match_ordering o (a ∷ b ∷ bs) (b ∷ bs) (b ∷ insert_key R bs a)) ≡ (is_eq (R k a) || (is_eq (R k b) || any_ties k bs))) [
        | Less ↦ λ e. refl
        | Equal ↦ λ e. or-again (is_eq (R k b)) (is_eq (R k a)) (any_ties k bs) (ap is_eq (sym (alike_right total a b k e)))
        | Greater ↦ λ e. ap (λ r. is_eq (R k b) || r) (any_ties-insert_key k a bs) ∙ or-swap (is_eq (R k b)) (is_eq (R k a)) (any_ties k bs)
      ] refl

  any_ties-with_each : (k : A) (places xs : List A) → any_ties k (with_each R places xs) ≡ (any_ties k places || any_ties k xs)
  any_ties-with_each k places [] = sym (or-false (any_ties k places))
    where
      or-false : (a : Bool) → (a || false) ≡ a
      or-false true = refl
      or-false false = refl
  any_ties-with_each k places (x ∷ xs) =
      any_ties-with_each k (insert_key R places x) xs
      ∙ ap (λ b. b || any_ties k xs) (any_ties-insert_key k x places)
      ∙ or-three (is_eq (R k x)) (any_ties k places) (any_ties k xs)
    where
      or-three : (a b c : Bool) → ((a || b) || c) ≡ (b || (a || c))
      or-three true true c = refl
      or-three true false c = refl
      or-three false b c = refl

  -- the different elements tie with what the list ties with
  pub any_ties-distinct : (k : A) (xs : List A) → any_ties k (distinct R xs) ≡ any_ties k xs
  any_ties-distinct k xs = any_ties-with_each k [] xs

-- two lists that rise and tie with the same elements are one
module _ {A : Type 0} (R : A → A → Ordering) (total : IsTotalOrder R) (exact : (a b : A) → R a b ≡ Equal → a ≡ b) where
  none_ties : (k : A) (bs : List A) → Each (λ b. R k b ≡ Less) bs → any_ties R total k bs ≡ false
  none_ties k [] h = refl
  none_ties k (b ∷ bs) h = ap (λ t. t || any_ties R total k bs) (ap is_eq h.0) ∙ none_ties k bs h.1

  ties_itself : (a : A) (bs : List A) → any_ties R total a (a ∷ bs) ≡ true
  ties_itself a bs = ap (λ t. t || any_ties R total a bs) (ap is_eq (tied_itself total a))

  differ : {P : Type 0} → true ≡ false → P
  differ e = cc

  same_first : (x y : A) (xs ys : List A) → Rises R (x ∷ xs) → Rises R (y ∷ ys)
      → ((k : A) → any_ties R total k (x ∷ xs) ≡ any_ties R total k (y ∷ ys)) → R x y ≡ Equal
  same_first x y xs ys h k same = by (R x y) refl
    where
      by : (o : Ordering) → R x y ≡ o → R x y ≡ Equal
      by Less e =
          let before : Each (λ b. R x b ≡ Less) (y ∷ ys) = (e, Each-weaker _ _ ys (λ b l. total.trans x y b e l) k.0) in
          differ (sym (ties_itself x xs) ∙ same x ∙ none_ties x (y ∷ ys) before)
      by Equal e = e
      by Greater e =
          let back : R y x ≡ Less = total.antisymm y x ∙ ap ordering_reverse e in
          let before : Each (λ b. R y b ≡ Less) (x ∷ xs) = (back, Each-weaker _ _ xs (λ b l. total.trans y x b back l) h.0) in
          differ (sym (ties_itself y ys) ∙ sym (same y) ∙ none_ties y (x ∷ xs) before)

  same_rest : (x : A) (xs ys : List A) → Rises R (x ∷ xs) → Rises R (x ∷ ys)
      → ((k : A) → any_ties R total k (x ∷ xs) ≡ any_ties R total k (x ∷ ys)) → (k : A) → any_ties R total k xs ≡ any_ties R total k ys
  same_rest x xs ys h g same k = by (is_eq (R k x)) refl
    where
      eq_of : (o : Ordering) → is_eq o ≡ true → o ≡ Equal
      eq_of Less e = cc
      eq_of Equal e = refl
      eq_of Greater e = cc

      by : (b : Bool) → is_eq (R k x) ≡ b → any_ties R total k xs ≡ any_ties R total k ys
      by true e =
          let tie : R k x ≡ Equal = eq_of (R k x) e in
          none_ties k xs (Each-weaker _ _ xs (λ b l. total.congr k x b tie ∙ l) h.0)
          ∙ sym (none_ties k ys (Each-weaker _ _ ys (λ b l. total.congr k x b tie ∙ l) g.0))
      by false e =
          sym (ap (λ t. t || any_ties R total k xs) e) ∙ same k ∙ ap (λ t. t || any_ties R total k ys) e

  pub Rises-unique : (xs ys : List A) → Rises R xs → Rises R ys → ((k : A) → any_ties R total k xs ≡ any_ties R total k ys) → xs ≡ ys
  Rises-unique [] [] h k same = refl
  Rises-unique [] (y ∷ ys) h k same = differ (sym (ties_itself y ys) ∙ sym (same y))
  Rises-unique (x ∷ xs) [] h k same = differ (sym (ties_itself x xs) ∙ same x)
  Rises-unique (x ∷ xs) (y ∷ ys) h k same =
      let first : y ≡ x = sym (exact x y (same_first x y xs ys h k same)) in
      let k2 = subst (λ z. Rises R (z ∷ ys)) first k in
      let same2 = subst (λ z. (q : A) → any_ties R total q (x ∷ xs) ≡ any_ties R total q (z ∷ ys)) first same in
      ap (λ l. x ∷ l) (Rises-unique xs ys h.1 k2.1 (same_rest x xs ys h k2 same2)) ∙ ap (λ z. z ∷ ys) (sym first)

  pub distinct-same : (xs ys : List A) → ((k : A) → any_ties R total k xs ≡ any_ties R total k ys) → distinct R xs ≡ distinct R ys
  distinct-same xs ys same =
      Rises-unique (distinct R xs) (distinct R ys) (Rises-distinct R total xs) (Rises-distinct R total ys)
      (λ k. any_ties-distinct R total k xs ∙ same k ∙ sym (any_ties-distinct R total k ys))
