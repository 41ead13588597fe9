-- Filters, and facts that hold of each element.
use Rattle.std.specs.Prelude.{◌≡◌, Bool, true, false, cond, ◌&&◌, List, [], ◌∷◌, ◌++◌, filter, map, refl}
use Rattle.std.specs.List.{AllByRecursion as Each}
use Rattle.std.proofs.Common.{sym, ap, ◌∙◌}

cond-cond : {X : Type 0} (a b : Bool) (u v : X) → cond a (cond b u v) v ≡ cond b (cond a u v) v
cond-cond true true u v = refl
cond-cond true false u v = refl
cond-cond false true u v = refl
cond-cond false false u v = refl

cond-same : {X : Type 0} (b : Bool) (u : X) → cond b u u ≡ u
cond-same true u = refl
cond-same false u = refl

cond-and : {X : Type 0} (a b : Bool) (u v : X) → cond a (cond b u v) v ≡ cond (a && b) u v
cond-and true b u v = refl
cond-and false b u v = refl

module _ {X : Type 0} where
  pub Each-append : (P : X → Type 0) (xs ys : List X) → Each P xs → Each P ys → Each P (xs ++ ys)
  Each-append P [] ys h k = k
  Each-append P (x ∷ xs) ys h k = (h.0, Each-append P xs ys h.1 k)

  pub Each-front : (P : X → Type 0) (xs ys : List X) → Each P (xs ++ ys) → Each P xs
  Each-front P [] ys h = tt
  Each-front P (x ∷ xs) ys h = (h.0, Each-front P xs ys h.1)

  pub Each-back : (P : X → Type 0) (xs ys : List X) → Each P (xs ++ ys) → Each P ys
  Each-back P [] ys h = h
  Each-back P (x ∷ xs) ys h = Each-back P xs ys h.1

  pub Each-weaker : (P Q : X → Type 0) (xs : List X) → ((x : X) → P x → Q x) → Each P xs → Each Q xs
  Each-weaker P Q [] f h = tt
  Each-weaker P Q (x ∷ xs) f h = (f x h.0, Each-weaker P Q xs f h.1)

  pub Each-all : (P : X → Type 0) → ((x : X) → P x) → (xs : List X) → Each P xs
  Each-all P f [] = tt
  Each-all P f (x ∷ xs) = (f x, Each-all P f xs)

  -- one element more or not, as a test says
  pub filter-hit : (p : X → Bool) (x : X) (xs : List X) → p x ≡ true → filter p (x ∷ xs) ≡ x ∷ filter p xs
  filter-hit p x xs h = ap (λ b. cond b (x ∷ filter p xs) (filter p xs)) h

  pub filter-miss : (p : X → Bool) (x : X) (xs : List X) → p x ≡ false → filter p (x ∷ xs) ≡ filter p xs
  filter-miss p x xs h = ap (λ b. cond b (x ∷ filter p xs) (filter p xs)) h

  pub Each-filter : (P : X → Type 0) (p : X → Bool) (xs : List X) → Each P xs → Each P (filter p xs)
  Each-filter P p [] h = tt
  Each-filter P p (x ∷ xs) h =
      elim (p x) as (λ b. Each P (cond b (x ∷ filter p xs) (filter p xs))) [
        | true ↦ (h.0, Each-filter P p xs h.1)
        | false ↦ Each-filter P p xs h.1
      ]

  -- what a filter keeps passes its test
  pub filter-passes : (p : X → Bool) (xs : List X) → Each (λ x. p x ≡ true) (filter p xs)
  filter-passes p [] = tt
  filter-passes p (x ∷ xs) =
      elim (p x) as (λ b. p x ≡ b → Each (λ y. p y ≡ true) (cond b (x ∷ filter p xs) (filter p xs))) [
        | true ↦ λ e. (e, filter-passes p xs)
        | false ↦ λ e. filter-passes p xs
      ] refl

  pub filter-all : (p : X → Bool) (xs : List X) → Each (λ x. p x ≡ true) xs → filter p xs ≡ xs
  filter-all p [] h = refl
  filter-all p (x ∷ xs) h = filter-hit p x xs h.0 ∙ ap (λ rest. x ∷ rest) (filter-all p xs h.1)

  pub filter-none : (p : X → Bool) (xs : List X) → Each (λ x. p x ≡ false) xs → filter p xs ≡ []
  filter-none p [] h = refl
  filter-none p (x ∷ xs) h = filter-miss p x xs h.0 ∙ filter-none p xs h.1

  filter-cond : (p : X → Bool) (b : Bool) (x : X) (xs : List X)
      → filter p (cond b (x ∷ xs) xs) ≡ cond b (cond (p x) (x ∷ filter p xs) (filter p xs)) (filter p xs)
  filter-cond p true x xs = refl
  filter-cond p false x xs = refl

  -- two filters, in either order
  pub filter-swap : (p q : X → Bool) (xs : List X) → filter p (filter q xs) ≡ filter q (filter p xs)
  filter-swap p q [] = refl
  filter-swap p q (x ∷ xs) =
      filter-cond p (q x) x (filter q xs)
      ∙ ap (λ a. cond (q x) (cond (p x) (x ∷ a) a) a) (filter-swap p q xs)
      ∙ cond-cond (q x) (p x) _ _
      ∙ sym (filter-cond q (p x) x (filter p xs))

  -- two filters are one
  pub filter-filter : (p q : X → Bool) (xs : List X) → filter p (filter q xs) ≡ filter (λ x. q x && p x) xs
  filter-filter p q [] = refl
  filter-filter p q (x ∷ xs) =
      filter-cond p (q x) x (filter q xs)
      ∙ ap (λ a. cond (q x) (cond (p x) (x ∷ a) a) a) (filter-filter p q xs)
      ∙ cond-and (q x) (p x) _ _

  -- a filter behind one that passes all that it passes
  pub filter-within : (p q : X → Bool) → ((x : X) → p x ≡ true → q x ≡ true) → (xs : List X)
      → filter p (filter q xs) ≡ filter p xs
  filter-within p q h [] = refl
  filter-within p q h (x ∷ xs) =
      filter-cond p (q x) x (filter q xs)
      ∙ ap (λ a. cond (q x) (cond (p x) (x ∷ a) a) a) (filter-within p q h xs)
      ∙ elim (p x) as (λ b. p x ≡ b → cond (q x) (cond b (x ∷ filter p xs) (filter p xs)) (filter p xs)
      ≡ cond b (x ∷ filter p xs) (filter p xs)) [
        | true ↦ λ e. ap (λ c. cond c (x ∷ filter p xs) (filter p xs)) (h x e)
        | false ↦ λ e. cond-same (q x) (filter p xs)
      ] refl

  -- two tests that agree at each element of a list
  pub filter-alike : (p q : X → Bool) (xs : List X) → Each (λ x. p x ≡ q x) xs → filter p xs ≡ filter q xs
  filter-alike p q [] h = refl
  filter-alike p q (x ∷ xs) h =
      ap (λ b. cond b (x ∷ filter p xs) (filter p xs)) h.0
      ∙ ap (λ rest. cond (q x) (x ∷ rest) rest) (filter-alike p q xs h.1)

-- a filter after a map
pub filter-map : {A B : Type 0} (q : B → Bool) (f : A → B) (xs : List A)
    → filter q (map f xs) ≡ map f (filter (λ x. q (f x)) xs)
filter-map q f [] = refl
filter-map {A = A} q f (x ∷ xs) =
    ap (λ rest. cond (q (f x)) (f x ∷ rest) rest) (filter-map q f xs)
    ∙ under (q (f x)) (filter (λ y. q (f y)) xs)
  where
    under : (b : Bool) (ys : List A) → cond b (f x ∷ map f ys) (map f ys) ≡ map f (cond b (x ∷ ys) ys)
    under true ys = refl
    under false ys = refl

pub Each-map : {A B : Type 0} (P : B → Type 0) (f : A → B) (xs : List A) → Each (λ x. P (f x)) xs → Each P (map f xs)
Each-map P f [] h = tt
Each-map P f (x ∷ xs) h = (h.0, Each-map P f xs h.1)
