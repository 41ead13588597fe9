-- A list put in an order, of what ties only the first.
use Rattle.std.specs.Prelude.{◌≡◌, List, [], ◌∷◌}
use Rattle.std.specs.BTreeSet.{insert_key}
use Rattle.std.specs.List.{AllByRecursion}
use Rattle.std.specs.declared.cmp.Ordering.{Ordering}
use Rattle.std.specs.declared.cmp.Ordering.TheVariants.{Less}

-- a list in order with each element of another put into its place, unless one that ties is there
abbrev pub with_each : {X : Type 0} → (X → X → Ordering) → List X → List X → List X
with_each R places [] = places
with_each R places (x ∷ xs) = with_each R (insert_key R places x) xs

-- the different elements in order
abbrev pub distinct : {X : Type 0} → (X → X → Ordering) → List X → List X
distinct R xs = with_each R [] xs

-- each element is below all that follow it
abbrev pub Rises : {X : Type 0} → (X → X → Ordering) → List X → Type 0
Rises R [] = Unit {0}
Rises R (x ∷ xs) = AllByRecursion (λ y. R x y ≡ Less) xs × Rises R xs
