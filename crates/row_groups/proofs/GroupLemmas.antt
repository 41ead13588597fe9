-- Items grouped by their keys, one item more.
use Rattle.std.proofs.Common.{◌≡◌, ◌≢◌, Bool, true, false, cond, List, [], ◌∷◌, ◌++◌, filter, map, refl, sym, ap, ◌∙◌, append-nil, append_assoc}
use Rattle.std.specs.BTreeSet.{insert_key}
use Rattle.std.specs.BTreeMap.{insert_entry, is_at}
use Rattle.std.specs.Cmp.{IsTotalOrder}
use Rattle.std.specs.List.{fold}
use Rattle.std.specs.List.{AllByRecursion as Each}
use Rattle.std.specs.Map.{lookup, set_value}
use Rattle.std.specs.Ordering.{is_eq, match_ordering}
use Rattle.std.specs.Prelude.{Some, None}
use Rattle.std.specs.declared.cmp.Ordering.{Ordering}
use Rattle.std.specs.declared.cmp.Ordering.TheVariants.{Less, Equal, Greater}
use Rattle.std.proofs.lemmas.Cmp.{alike_right, tied_back, tied_itself}
use Rattle.std.proofs.lemmas.List.{map-append}
use Rattle.std.proofs.lemmas.List.Elements.{filter-append}
use Rattle.std.proofs.lemmas.List.Sums.{fold-append}
use Rattle.row_order.proofs.ListLemmas.{Each-weaker}
use Rattle.row_groups.specs.Distinct.{Rises, distinct, with_each}
use Rattle.row_groups.specs.Groups.{group, grouped, items_of, keys_of, with_item, with_items, with_value}
use Rattle.row_groups.proofs.DistinctLemmas.{Rises-distinct, distinct-append}

-- the items of a key in two lists behind each other
pub items_of-append : {K X : Type 0} (R : K → K → Ordering) (xs ys : List (K × X)) (k : K)
    → items_of R (xs ++ ys) k ≡ items_of R xs k ++ items_of R ys k
items_of-append {K} {X} R xs ys k =
    ap (map (λ (x : K × X). x.1)) (filter-append (λ (x : K × X). is_eq (R k x.0)) xs ys)
    ∙ map-append (λ (x : K × X). x.1) (filter (λ (x : K × X). is_eq (R k x.0)) xs) (filter (λ (x : K × X). is_eq (R k x.0)) ys)

module _ {K X A : Type 0} (R : K → K → Ordering) (start : A) (add : A → X → A) where
  pub with_items-append : (gs : List (K × A)) (xs ys : List (K × X)) → with_items R start add gs (xs ++ ys) ≡ with_items R start add (with_items R start add gs xs) ys
  with_items-append gs [] ys = refl
  with_items-append gs (x ∷ xs) ys = with_items-append (with_item R start add gs x.0 x.1) xs ys

  module _ (total : IsTotalOrder R) where
    map-other : (f g : K → A) (k : K) → ((q : K) → R k q ≢ Equal → g q ≡ f q) → (qs : List K) → Each (λ q. R k q ≡ Less) qs → map (with_value f) qs ≡ map (with_value g) qs
    map-other f g k other [] h = refl
    map-other f g k other (q ∷ qs) h = λ i. (q, sym (other q (less_not_equal q h.0)) i) ∷ map-other f g k other qs h.1 i
      where
        less_not_equal : (q : K) → R k q ≡ Less → R k q ≢ Equal
        less_not_equal q l e = cc

    with_item-map : (f g : K → A) (k : K) (x : X) → ((q : K) → R k q ≢ Equal → g q ≡ f q) → ((q : K) → R k q ≡ Equal → g q ≡ add (f q) x)
        → (qs : List K) → Rises R qs → (Each (λ q. R k q ≢ Equal) qs → g k ≡ add start x) → with_item R start add (map (with_value f) qs) k x ≡ map (with_value g) (insert_key R qs k)
    with_item-map f g k x other tied [] h fresh = ap (λ a. (k, a) ∷ []) (sym (fresh tt))
    with_item-map f g k x other tied (b ∷ qs) h fresh =
        elim (R k b) as (λ o. R k b ≡ o → match_ordering o ((k, add start x) ∷ (b, f b) ∷ map (with_value f) qs) ((b, add (f b) x) ∷ map (with_value f) qs) ((b, f b) ∷ with_item R start add (map (with_value f) qs) k x) ≡ map (with_value g) (match_ordering o (k ∷ b ∷ qs) (b ∷ qs) (b ∷ insert_key R qs k))) [
          | Less ↦ λ e.
              let rest : Each (λ q. R k q ≡ Less) qs = Each-weaker _ _ qs (λ q l. total.trans k b q e l) h.0 in
              λ i. (k, sym (fresh (less_differs b e, Each-weaker _ _ qs (λ q l. less_differs q l) rest)) i) ∷ (b, sym (other b (less_differs b e)) i) ∷ map-other f g k other qs rest i
          | Equal ↦ λ e.
              let rest : Each (λ q. R k q ≡ Less) qs = Each-weaker _ _ qs (λ q l. total.congr k b q e ∙ l) h.0 in
              λ i. (b, sym (tied b e) i) ∷ map-other f g k other qs rest i
          | Greater ↦ λ e.
              λ i. (b, sym (other b (greater_differs b e)) i) ∷ with_item-map f g k x other tied qs h.1 (λ none. fresh (greater_differs b e, none)) i
        ] refl
      where
        less_differs : (q : K) → R k q ≡ Less → R k q ≢ Equal
        less_differs q l e = cc

        greater_differs : (q : K) → R k q ≡ Greater → R k q ≢ Equal
        greater_differs q l e = cc

    -- where nothing in the list that was put in order ties with k, nothing at all does
    none_insert_key : (k a : K) (bs : List K) → Each (λ q. R k q ≢ Equal) (insert_key R bs a) → (R k a ≢ Equal) × Each (λ q. R k q ≢ Equal) bs
    none_insert_key k a [] h = (h.0, tt)
    none_insert_key k a (b ∷ bs) h =
        elim (R a b) as (λ o. R a b ≡ o → Each (λ q. R k q ≢ Equal) (match_ordering o (a ∷ b ∷ bs) (b ∷ bs) (b ∷ insert_key R bs a)) → (R k a ≢ Equal) × Each (λ q. R k q ≢ Equal) (b ∷ bs)) [
          | Less ↦ λ e n. (n.0, n.1)
          | Equal ↦ λ e n. ((λ t. n.0 (sym (alike_right total a b k e) ∙ t)), n)
          | Greater ↦ λ e n. let rest = none_insert_key k a bs n.1 in (rest.0, (n.0, rest.1))
        ] refl h

    none_with_each : (k : K) (places xs : List K) → Each (λ q. R k q ≢ Equal) (with_each R places xs) → Each (λ q. R k q ≢ Equal) places × Each (λ q. R k q ≢ Equal) xs
    none_with_each k places [] h = (h, tt)
    none_with_each k places (x ∷ xs) h =
        let rest = none_with_each k (insert_key R places x) xs h in
        let here = none_insert_key k x places rest.0 in
        (here.1, (here.0, rest.1))

    none_grouped : (k : K) (xs : List (K × X)) → Each (λ q. R k q ≢ Equal) (keys_of xs) → items_of R xs k ≡ []
    none_grouped k [] h = refl
    none_grouped k (x ∷ xs) h =
        ap (λ b. map (λ (y : K × X). y.1) (cond b (x ∷ filter (λ (y : K × X). is_eq (R k y.0)) xs) (filter (λ (y : K × X). is_eq (R k y.0)) xs))) (not_tied (R k x.0) h.0)
        ∙ none_grouped k xs h.1
      where
        not_tied : (o : Ordering) → o ≢ Equal → is_eq o ≡ false
        not_tied Less n = refl
        not_tied Equal n = absurd (n refl)
        not_tied Greater n = refl

    -- one item more in its group
    pub grouped-more : (xs : List (K × X)) (k : K) (x : X) → with_item R start add (grouped R start add xs) k x ≡ grouped R start add (xs ++ (k, x) ∷ [])
    grouped-more xs k x =
        with_item-map (group R start add xs) (group R start add (xs ++ (k, x) ∷ [])) k x other tied (distinct R (keys_of xs)) (Rises-distinct R total (keys_of xs)) fresh
        ∙ ap (map (with_value (group R start add (xs ++ (k, x) ∷ [])))) (sym (ap (distinct R) (map-append (λ (y : K × X). y.0) xs ((k, x) ∷ [])) ∙ distinct-append R (keys_of xs) (k ∷ [])))
      where
        in_two : (q : K) → group R start add (xs ++ (k, x) ∷ []) q ≡ fold add (group R start add xs q) (items_of R ((k, x) ∷ []) q)
        in_two q = ap (fold add start) (items_of-append R xs ((k, x) ∷ []) q) ∙ fold-append add start (items_of R xs q) (items_of R ((k, x) ∷ []) q)

        by_tie : (q : K) (b : Bool) → is_eq (R q k) ≡ b → group R start add (xs ++ (k, x) ∷ []) q ≡ cond b (add (group R start add xs q) x) (group R start add xs q)
        by_tie q true e = in_two q ∙ ap (λ b. fold add (group R start add xs q) (map (λ (y : K × X). y.1) (cond b ((k, x) ∷ []) []))) e
        by_tie q false e = in_two q ∙ ap (λ b. fold add (group R start add xs q) (map (λ (y : K × X). y.1) (cond b ((k, x) ∷ []) []))) e

        is_tied : (q : K) → R k q ≡ Equal → is_eq (R q k) ≡ true
        is_tied q e = ap is_eq (tied_back total k q e)

        not_tied_back : (q : K) → R k q ≢ Equal → (o : Ordering) → R q k ≡ o → is_eq o ≡ false
        not_tied_back q n Less e = refl
        not_tied_back q n Equal e = absurd (n (tied_back total q k e))
        not_tied_back q n Greater e = refl

        tied : (q : K) → R k q ≡ Equal → group R start add (xs ++ (k, x) ∷ []) q ≡ add (group R start add xs q) x
        tied q e = by_tie q true (is_tied q e)

        other : (q : K) → R k q ≢ Equal → group R start add (xs ++ (k, x) ∷ []) q ≡ group R start add xs q
        other q n = by_tie q false (not_tied_back q n (R q k) refl)

        fresh : Each (λ q. R k q ≢ Equal) (distinct R (keys_of xs)) → group R start add (xs ++ (k, x) ∷ []) k ≡ add start x
        fresh none =
            by_tie k true is_tied_itself
            ∙ ap (λ l. add (fold add start l) x) (none_grouped k xs (none_with_each k [] (keys_of xs) none).1)
          where
            is_tied_itself : is_eq (R k k) ≡ true
            is_tied_itself = ap is_eq (tied_itself total k)

    -- items more, each in its group
    pub grouped-append : (xs ys : List (K × X)) → with_items R start add (grouped R start add xs) ys ≡ grouped R start add (xs ++ ys)
    grouped-append xs [] = ap (grouped R start add) (sym (append-nil xs))
    grouped-append xs (y ∷ ys) =
        ap (λ gs. with_items R start add gs ys) (grouped-more xs y.0 y.1)
        ∙ grouped-append (xs ++ y ∷ []) ys
        ∙ ap (grouped R start add) (append_assoc xs (y ∷ []) ys)

    differs : {P : Type 0} → Equal ≡ Less → P
    differs e = cc

    -- an item of a key that the groups have changes its value in place
    pub with_item-set_value : (gs : List (K × A)) (k : K) (x : X) (a : A) → Rises R (keys_of gs) → lookup (is_at (R k)) gs ≡ Some a
        → with_item R start add gs k x ≡ set_value (is_at (R k)) gs (add a x)
    with_item-set_value [] k x a h e = cc
    with_item-set_value (g ∷ gs) k x a h e =
        elim (R k g.0) as (λ o. R k g.0 ≡ o → cond (is_eq o) (Some g.1) (lookup (is_at (R k)) gs) ≡ Some a
        → match_ordering o ((k, add start x) ∷ g ∷ gs) ((g.0, add g.1 x) ∷ gs) (g ∷ with_item R start add gs k x) ≡ cond (is_eq o) ((g.0, add a x) ∷ gs) (g ∷ set_value (is_at (R k)) gs (add a x))) [
          | Less ↦ λ l f. none_below (sym (lookup-none gs (Each-weaker _ _ (keys_of gs) (λ q m. total.trans k g.0 q l m) h.0)) ∙ f)
          | Equal ↦ λ l f. ap (λ (b : A). (g.0, add b x) ∷ gs) (some_is f)
          | Greater ↦ λ l f. ap (λ rest. g ∷ rest) (with_item-set_value gs k x a h.1 f)
        ] refl e
      where
        some_is : {b c : A} → Some b ≡ Some c → b ≡ c
        some_is s = cc

        none_below : {P : Type 0} {c : A} → None ≡ Some c → P
        none_below s = cc

        lookup-none : (es : List (K × A)) → Each (λ q. R k q ≡ Less) (keys_of es) → lookup (is_at (R k)) es ≡ None
        lookup-none [] m = refl
        lookup-none (f ∷ es) m = ap (λ o. cond (is_eq o) (Some f.1) (lookup (is_at (R k)) es)) m.0 ∙ lookup-none es m.1

    -- an item of a new key begins a group
    pub with_item-insert_entry : (gs : List (K × A)) (k : K) (x : X) → lookup (is_at (R k)) gs ≡ None
        → with_item R start add gs k x ≡ insert_entry R gs k (add start x)
    with_item-insert_entry [] k x e = refl
    with_item-insert_entry (g ∷ gs) k x e =
        elim (R k g.0) as (λ o. cond (is_eq o) (Some g.1) (lookup (is_at (R k)) gs) ≡ None
        → match_ordering o ((k, add start x) ∷ g ∷ gs) ((g.0, add g.1 x) ∷ gs) (g ∷ with_item R start add gs k x) ≡ match_ordering o ((k, add start x) ∷ g ∷ gs) ((g.0, add start x) ∷ gs) (g ∷ insert_entry R gs k (add start x))) [
          | Less ↦ λ f. refl
          | Equal ↦ λ f. cc
          | Greater ↦ λ f. ap (λ rest. g ∷ rest) (with_item-insert_entry gs k x f)
        ] e
