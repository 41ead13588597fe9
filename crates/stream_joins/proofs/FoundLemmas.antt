-- The rows with the matches in a list, and when a left row comes alone.
use Rattle.std.proofs.Common.{◌≡◌, Bool, true, false, cond, ◌||◌, List, [], ◌∷◌, filter, map, refl, ap, sym, ◌∙◌}
use Rattle.std.specs.List.{list_any}
use Rattle.event_value.specs.declared.record.Stamped.{Stamped}
use Rattle.stream_joins.specs.Joined.{or_alone}

module _ (q : Stamped → Bool) (f : Stamped → Stamped) where
  abbrev pub found : List Stamped → List Stamped
  found xs = map f (filter q xs)

  pub found-none : (xs : List Stamped) → list_any q xs ≡ false → found xs ≡ []
  found-none [] h = refl
  found-none (x ∷ xs) h = by (found-none xs) (q x) refl
    where
      by : (list_any q xs ≡ false → found xs ≡ []) → (b : Bool) → q x ≡ b → map f (cond b (x ∷ filter q xs) (filter q xs)) ≡ []
      by rest true e = let k : true ≡ false = ap (λ b. b || list_any q xs) (sym e) ∙ h in cc
      by rest false e = rest (ap (λ b. b || list_any q xs) (sym e) ∙ h)

  -- a left row with a match doesn't come alone
  pub or_alone-some : (outer : Bool) (row : Stamped) (xs : List Stamped) → list_any q xs ≡ true → or_alone outer row (found xs) ≡ found xs
  or_alone-some outer row [] h = cc
  or_alone-some outer row (x ∷ xs) h = by (or_alone-some outer row xs) (q x) refl
    where
      by : (list_any q xs ≡ true → or_alone outer row (found xs) ≡ found xs) → (b : Bool) → q x ≡ b
          → or_alone outer row (map f (cond b (x ∷ filter q xs) (filter q xs))) ≡ map f (cond b (x ∷ filter q xs) (filter q xs))
      by rest true e = refl
      by rest false e = rest (ap (λ b. b || list_any q xs) (sym e) ∙ h)

  -- one without a match comes alone if it is to
  pub alone-comes : (outer : Bool) (row : Stamped) (xs : List Stamped) → outer ≡ true → list_any q xs ≡ false → or_alone outer row (found xs) ≡ row ∷ []
  alone-comes outer row xs o none = ap (or_alone outer row) (found-none xs none) ∙ ap (λ b. cond b (row ∷ []) []) o

  pub alone-never : (outer : Bool) (row : Stamped) (rows : List Stamped) → outer ≡ false → or_alone outer row rows ≡ rows
  alone-never outer row [] o = ap (λ b. cond b (row ∷ []) []) o
  alone-never outer row (other ∷ rows) o = refl
