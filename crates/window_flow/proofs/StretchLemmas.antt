-- A stretch of time of a list in order is a stretch of its places.
use Rattle.std.proofs.Common.{◌≡◌, ℕ, zero, suc, ◌+◌, ◌-◌, ◌<◌, ◌≤◌, Bool, true, false, List, [], ◌∷◌, ◌++◌, ◌⊎◌, inl, inr, filter, length, take, drop, get_or, refl, sym, ap, subst, ◌∙◌, arith}
use Rattle.std.specs.List.{AllWithin}
use Rattle.std.specs.List.Sorted.{IsNonDecreasingBy}
use Rattle.std.specs.Prelude.{◌&&◌, nat_le, nat_lt}
use Rattle.std.proofs.lemmas.Bool.Decides.{nat_tests}
use Rattle.std.proofs.lemmas.List.{drop-take}
use Rattle.std.proofs.lemmas.List.Sums.{count_by-le-length, length-filter}
use Rattle.event_value.specs.declared.record.Stamped.{Stamped}
use Rattle.row_order.proofs.ListLemmas.{Each-all, filter-alike, filter-hit, filter-miss, filter-none, filter-swap}
use Rattle.row_order.proofs.StretchLemmas.{IsInOrder-filter, rows_below-append-rows_from, rows_below-rows_below, rows_below-rows_from}
use Rattle.row_order.specs.InOrder.{AllFrom}
use Rattle.stream_op.specs.Rows.{AreInOrder, below, between, from_on, time_of}
use Rattle.window_flow.specs.Sliding.{content, is_held}

-- a list in order by places
AllFrom-place : (n : ℕ) (rows : List Stamped) (j : ℕ) (d : Stamped) → j < length rows → AllFrom time_of n rows → n ≤ time_of (get_or rows j d)
AllFrom-place n [] j d lt h = absurd (omega arith)
AllFrom-place n (row ∷ rows) zero d lt h = h.0
AllFrom-place n (row ∷ rows) (suc j) d lt h = AllFrom-place n rows j d (omega arith) h.1

pub AreInOrder-places : (rows : List Stamped) → AreInOrder rows → IsNonDecreasingBy time_of rows
AreInOrder-places [] h i j d le lt = absurd (omega arith)
AreInOrder-places (row ∷ rows) h zero zero d le lt = omega arith
AreInOrder-places (row ∷ rows) h zero (suc j) d le lt = AllFrom-place row.time rows j d (omega arith) h.0
AreInOrder-places (row ∷ rows) h (suc i) zero d le lt = absurd (omega arith)
AreInOrder-places (row ∷ rows) h (suc i) (suc j) d le lt = AreInOrder-places rows h.1 i j d (omega arith) (omega arith)

-- where a test turns, so many pass it
pub turn-count : {X : Type 0} (p : X → Bool) (xs : List X) (i : ℕ) → i ≤ length xs → AllWithin (λ x. p x ≡ true) xs 0 i → AllWithin (λ x. p x ≡ false) xs i (length xs)
    → i ≡ length (filter p xs)
turn-count p [] i le h k = omega arith
turn-count p (x ∷ xs) zero le h k =
    turn-count p xs zero (omega arith) (λ j d a b. absurd (omega arith)) (λ j d a b. k (suc j) d (omega arith) (omega arith))
    ∙ sym (ap length (filter-miss p x xs (k 0 x (omega arith) (omega arith))))
turn-count p (x ∷ xs) (suc i) le h k =
    ap suc (turn-count p xs i (omega arith) (λ j d a b. h (suc j) d (omega arith) (omega arith)) (λ j d a b. k (suc j) d (omega arith) (omega arith)))
    ∙ sym (ap length (filter-hit p x xs (h 0 x (omega arith) (omega arith))))

take-front : {X : Type 0} (xs ys : List X) → take (length xs) (xs ++ ys) ≡ xs
take-front [] ys = refl
take-front (x ∷ xs) ys = ap (λ l. x ∷ l) (take-front xs ys)

drop-front : {X : Type 0} (xs ys : List X) → drop (length xs) (xs ++ ys) ≡ ys
drop-front [] ys = refl
drop-front (x ∷ xs) ys = drop-front xs ys

take-below : (w : ℕ) (rows : List Stamped) → AreInOrder rows → take (length (below w rows)) rows ≡ below w rows
take-below w rows o =
    ap (take (length (below w rows))) (sym (rows_below-append-rows_from time_of w rows o))
    ∙ take-front (below w rows) (from_on w rows)

drop-below : (w : ℕ) (rows : List Stamped) → AreInOrder rows → drop (length (below w rows)) rows ≡ from_on w rows
drop-below w rows o =
    ap (drop (length (below w rows))) (sym (rows_below-append-rows_from time_of w rows o))
    ∙ drop-front (below w rows) (from_on w rows)

-- fewer rows are below an earlier time
below-fewer : (v w : ℕ) (rows : List Stamped) → v ≤ w → length (below v rows) ≤ length (below w rows)
below-fewer v w rows le =
    let fewer : length (below v (below w rows)) ≤ length (below w rows) = omega (arith, length-filter (λ (row : Stamped). nat_lt row.time v) (below w rows), count_by-le-length (λ (row : Stamped). nat_lt row.time v) (below w rows)) in
    subst (λ l. length l ≤ length (below w rows)) (rows_below-rows_below time_of v w rows le) fewer

-- the places from the number below v to the number below w
take-between : (v w : ℕ) (rows : List Stamped) → AreInOrder rows → v ≤ w
    → take (length (below w rows) - length (below v rows)) (drop (length (below v rows)) rows) ≡ between v w rows
take-between v w rows o le =
    let whole : length (below v rows) + (length (below w rows) - length (below v rows)) ≡ length (below w rows) = omega (arith, below-fewer v w rows le) in
    sym (drop-take (length (below v rows)) (length (below w rows) - length (below v rows)) rows)
    ∙ ap (λ k. drop (length (below v rows)) (take k rows)) whole
    ∙ ap (drop (length (below v rows))) (take-below w rows o)
    ∙ ap (λ l. drop (length l) (below w rows)) (sym (rows_below-rows_below time_of v w rows le))
    ∙ drop-below v (below w rows) (IsInOrder-filter time_of _ rows o)
    ∙ filter-swap _ _ rows
    ∙ rows_below-rows_from time_of v w rows

lt-both : (t v w : ℕ) → w ≤ v → (nat_le v t && nat_lt t w) ≡ false
lt-both t v w h = grind (arith, nat_tests)

between-none : (v w : ℕ) (rows : List Stamped) → w ≤ v → between v w rows ≡ []
between-none v w rows le = filter-none _ rows (Each-all _ (λ (row : Stamped). lt-both row.time v w le) rows)

order-of : (v w : ℕ) → (v ≤ w) ⊎ (w < v)
order-of v w = grind arith

-- the places between are the stretch
pub stretch-places : (v w m n : ℕ) (rows : List Stamped) → AreInOrder rows → m ≡ length (below v rows) → n ≡ length (below w rows) → m < n
    → take (n - m) (drop m rows) ≡ between v w rows
stretch-places v w m n rows o first end lt = by (order-of v w)
  where
    by : (v ≤ w) ⊎ (w < v) → take (n - m) (drop m rows) ≡ between v w rows
    by (inl le) = ap (λ k. take (k - m) (drop m rows)) end ∙ ap (λ k. take (length (below w rows) - k) (drop k rows)) first ∙ take-between v w rows o le
    by (inr after) = absurd (omega (arith, first, end, below-fewer w v rows (omega arith)))

-- and where there is none between, the stretch has no row
pub stretch-none : (v w m n : ℕ) (rows : List Stamped) → AreInOrder rows → m ≡ length (below v rows) → n ≡ length (below w rows) → n ≤ m
    → [] ≡ between v w rows
stretch-none v w m n rows o first end le = by (order-of v w)
  where
    by : (v ≤ w) ⊎ (w < v) → [] ≡ between v w rows
    by (inl before) =
        let none : 0 ≡ length (below w rows) - length (below v rows) = omega (arith, first, end) in
        ap (λ k. take k (drop (length (below v rows)) rows)) none
        ∙ take-between v w rows o before
    by (inr after) = sym (between-none v w rows (omega arith))

held-within : (size x t : ℕ) → (nat_le (x + 1 - size) t && nat_lt t (x + 1)) ≡ (nat_le t x && nat_lt x (t + size))
held-within size x t = grind (arith, nat_tests)

-- what the window holds is a stretch
pub content-between : (size x : ℕ) (rows : List Stamped) → between (x + 1 - size) (x + 1) rows ≡ content size rows x
content-between size x rows = filter-alike _ (is_held size x) rows (Each-all _ (λ (row : Stamped). held-within size x row.time) rows)
