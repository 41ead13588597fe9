-- Items grouped by their keys, each group folded into one value.
use Rattle.std.specs.Prelude.{List, [], ◌∷◌, filter, map}
use Rattle.std.specs.List.{fold}
use Rattle.std.specs.Ordering.{is_eq, match_ordering}
use Rattle.std.specs.declared.cmp.Ordering.{Ordering}
use Rattle.row_groups.specs.Distinct.{distinct}

-- the items whose keys tie with k
abbrev pub items_of : {K X : Type 0} → (K → K → Ordering) → List (K × X) → K → List X
items_of {K} {X} R xs k = map (λ (x : K × X). x.1) (filter (λ (x : K × X). is_eq (R k x.0)) xs)

-- the keys of items
abbrev pub keys_of : {K X : Type 0} → List (K × X) → List K
keys_of {K} {X} xs = map (λ (x : K × X). x.0) xs

abbrev pub with_value : {K A : Type 0} → (K → A) → K → K × A
with_value f k = (k, f k)

module _ {K X A : Type 0} (R : K → K → Ordering) (start : A) (add : A → X → A) where
  -- what the items of a key come to
  abbrev pub group : List (K × X) → K → A
  group xs k = fold add start (items_of R xs k)

  -- each key once, in order, with what its items come to
  abbrev pub grouped : List (K × X) → List (K × A)
  grouped xs = map (with_value (group xs)) (distinct R (keys_of xs))

  -- groups in order with one item more
  abbrev pub with_item : List (K × A) → K → X → List (K × A)
  with_item [] k x = (k, add start x) ∷ []
  with_item (g ∷ gs) k x =
      match_ordering (R k g.0) ((k, add start x) ∷ g ∷ gs) ((g.0, add g.1 x) ∷ gs) (g ∷ with_item gs k x)

  -- groups in order with more items
  abbrev pub with_items : List (K × A) → List (K × X) → List (K × A)
  with_items gs [] = gs
  with_items gs (x ∷ xs) = with_items (with_item gs x.0 x.1) xs
