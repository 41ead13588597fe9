-- The printed rows of outputs, one output after the other.
use Rattle.std.proofs.Common.{◌≡◌, ◌≤◌, ℕ, zero, suc, ◌+◌, List, [], ◌∷◌, ◌++◌, take, drop, length, min, refl, ap, sym, ◌∙◌, append-nil, append_assoc, arith}
use Rattle.query_plan.specs.declared.plan.Output.{Output}
use Rattle.event_value.specs.declared.record.Stamped.{Stamped}
use Rattle.job_core.specs.Batches.{printed_outputs, printed_rows}
use Rattle.job_core.specs.Gathered.{first_list, joined}
use Rattle.job_core.specs.Lanes.{AreAsMany}

pub many-taken : {X Y : Type 0} (n : ℕ) (xs : List X) (ys : List Y) → n ≤ length xs → n ≤ length ys → AreAsMany (take n xs) (take n ys)
many-taken zero xs ys h k = tt
many-taken (suc n) [] ys h k = absurd (omega (arith, h))
many-taken (suc n) (x ∷ xs) [] h k = absurd (omega (arith, k))
many-taken (suc n) (x ∷ xs) (y ∷ ys) h k = many-taken n xs ys (omega (arith, h)) (omega (arith, k))

pub printed-push : (start : ℕ) (outputs : List Output) (rows : List (List Stamped)) (output : Output) (own : List Stamped) → AreAsMany outputs rows
    → printed_outputs start (outputs ++ output ∷ []) (rows ++ own ∷ []) ≡ printed_outputs start outputs rows ++ printed_rows start output own ∷ []
printed-push start [] [] output own h = refl
printed-push start [] (r ∷ rows) output own h = absurd h
printed-push start (o ∷ outputs) [] output own h = absurd h
printed-push start (o ∷ outputs) (r ∷ rows) output own h = ap (λ l. printed_rows start o r ∷ l) (printed-push start outputs rows output own h)

pub printed-enough : (start n : ℕ) (outputs : List Output) (rows : List (List Stamped)) → min (length outputs) (length rows) ≤ n
    → printed_outputs start (take n outputs) (take n rows) ≡ printed_outputs start outputs rows
printed-enough start zero [] rows h = refl
printed-enough start zero (o ∷ outputs) [] h = refl
printed-enough start zero (o ∷ outputs) (r ∷ rows) h = absurd (omega (arith, h))
printed-enough start (suc n) [] rows h = refl
printed-enough start (suc n) (o ∷ outputs) [] h = refl
printed-enough start (suc n) (o ∷ outputs) (r ∷ rows) h = ap (λ l. printed_rows start o r ∷ l) (printed-enough start n outputs rows (omega (arith, h)))

-- one list more from the front
pub joined-more : (n : ℕ) (lists : List (List Stamped)) → joined (take (n + 1) lists) ≡ joined (take n lists) ++ first_list (drop n lists)
joined-more n lists =
    let e : n + 1 ≡ suc n = omega arith in
    ap (λ m. joined (take m lists)) e ∙ next n lists
  where
    next : (n : ℕ) (lists : List (List Stamped)) → joined (take (suc n) lists) ≡ joined (take n lists) ++ first_list (drop n lists)
    next zero [] = refl
    next zero (rows ∷ lists) = append-nil rows
    next (suc n) [] = refl
    next (suc n) (rows ∷ lists) = ap (λ l. rows ++ l) (next n lists) ∙ sym (append_assoc rows (joined (take n lists)) (first_list (drop n lists)))

pub drop-one : {X : Type 0} (n : ℕ) (xs : List X) → drop 1 (drop n xs) ≡ drop (n + 1) xs
drop-one {X} n xs =
    let e : suc n ≡ n + 1 = omega arith in
    next n xs ∙ ap (λ m. drop m xs) e
  where
    next : (n : ℕ) (xs : List X) → drop 1 (drop n xs) ≡ drop (suc n) xs
    next zero xs = refl
    next (suc n) [] = refl
    next (suc n) (x ∷ xs) = next n xs
