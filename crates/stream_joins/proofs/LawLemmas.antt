-- Rows by their places, and the last snapshot at or before a time.
use Rattle.std.proofs.Common.{◌≡◌, ℕ, zero, suc, ◌<◌, ◌≤◌, Bool, true, false, nat_le, List, [], ◌∷◌, ◌++◌, length, get_or, filter, refl, ap, ◌∙◌, arith, Option, Some, None}
use Rattle.std.specs.List.{All, flat_map}
use Rattle.std.proofs.lemmas.Bool.Decides.{nat_tests}
use Rattle.std.proofs.lemmas.List.Elements.{filter-append}
use Rattle.stream_joins.specs.Laws.{IsLastBefore}
use Rattle.stream_joins.specs.Snapshots.{in_force, place_with}

pub filter-flat_map : {X Y : Type 0} (p : Y → Bool) (f : X → List Y) (xs : List X) → filter p (flat_map f xs) ≡ flat_map (λ x. filter p (f x)) xs
filter-flat_map p f [] = refl
filter-flat_map p f (x ∷ xs) = filter-append p (f x) (flat_map f xs) ∙ ap (λ l. filter p (f x) ++ l) (filter-flat_map p f xs)

le-true : (m n : ℕ) → nat_le m n ≡ true → m ≤ n
le-true m n h = grind (arith, nat_tests)

le-false : (m n : ℕ) → nat_le m n ≡ false → n < m
le-false m n h = grind (arith, nat_tests)

-- one moment more before the others
one-more : (t m : ℕ) (moments : List ℕ) (b : Bool) (place : Option ℕ) → nat_le m t ≡ b → IsLastBefore moments t place
    → IsLastBefore (m ∷ moments) t (place_with b place)
one-more t m moments true None e h = (omega arith, le-true m t e, behind)
  where
    behind : (later : ℕ) → 0 < later → later < length (m ∷ moments) → t < get_or (m ∷ moments) later 0
    behind zero a b = absurd (omega arith)
    behind (suc k) a b = h k 0 (omega arith)
one-more t m moments false None e h = all
  where
    all : All (λ moment. t < moment) (m ∷ moments)
    all zero d lt = le-false m t e
    all (suc k) d lt = h k d (omega arith)
one-more t m moments b (Some place) e h = (omega (arith, h.0), h.1, behind)
  where
    behind : (later : ℕ) → suc place < later → later < length (m ∷ moments) → t < get_or (m ∷ moments) later 0
    behind zero a b = absurd (omega arith)
    behind (suc k) a b = h.2 k (omega arith) (omega arith)

pub in_force-last : (effective : List ℕ) (t : ℕ) → IsLastBefore effective t (in_force effective t)
in_force-last [] t = λ k d lt. absurd (omega arith)
in_force-last (m ∷ effective) t = one-more t m effective (nat_le m t) (in_force effective t) refl (in_force-last effective t)
