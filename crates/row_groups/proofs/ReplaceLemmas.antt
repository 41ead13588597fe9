-- A list whose first elements were replaced, and the next one.
use Rattle.std.proofs.Common.{◌≡◌, ℕ, zero, suc, ◌<◌, List, [], ◌∷◌, ◌++◌, map, take, drop, set, get_or, length, refl, ap, arith}

pub replaced-next : {X : Type 0} (f : X → X) (xs : List X) (i : ℕ) (d : X) → i < length xs
    → set (map f (take i xs) ++ drop i xs) i (f (get_or (map f (take i xs) ++ drop i xs) i d)) ≡ map f (take (suc i) xs) ++ drop (suc i) xs
replaced-next f [] i d h = absurd (omega arith)
replaced-next f (x ∷ xs) zero d h = refl
replaced-next f (x ∷ xs) (suc i) d h = ap (λ l. f x ∷ l) (replaced-next f xs i d (omega arith))
