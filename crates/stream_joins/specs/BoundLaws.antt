-- The laws of a join within a bound.
use Rattle.std.specs.Prelude.{◌≡◌, ℕ, ◌+◌, ◌-◌, ◌<◌, ◌≤◌, max, ℤ, pos, negsuc, ◌-ℤ◌, int_le, Bool, true, false, ◌&&◌, cond, nat_lt, nat_le, List, [], ◌∷◌, ◌++◌, filter, map, refl, Some}
use Rattle.std.specs.List.{AllByRecursion as Each}
use Rattle.std.specs.List.{flat_map}
use Rattle.std.proofs.Common.{sym, ap, ◌∙◌, arith}
use Rattle.std.proofs.lemmas.Bool.Decides.{nat_tests}
use Rattle.std.proofs.lemmas.Int.{ints}
use Rattle.std.proofs.lemmas.List.Elements.{filter-append}
use Rattle.event_value.specs.declared.record.Stamped.{Stamped}
use Rattle.row_order.proofs.InOrderLemmas.{IsInOrder-in_order, filter-in_order}
use Rattle.row_order.proofs.ListLemmas.{Each-all, Each-map, Each-weaker, filter-alike, filter-map, filter-none, filter-passes, filter-swap, filter-within}
use Rattle.row_order.specs.InOrder.{in_order}
use Rattle.stream_joins.specs.Bound.{Bound, alone, bound_join, bound_reach, is_match, is_near, is_pair, negative_part, pair_row, positive_part, rows_of}
use Rattle.stream_joins.specs.Joined.{or_alone}
use Rattle.stream_op.specs.Laws.{StreamLaws}
use Rattle.stream_op.specs.Rows.{below, from_on, time_of}
use Rattle.stream_op.specs.Timewise.{at_times}

lt-true : (m n : ℕ) → nat_lt m n ≡ true → m < n
lt-true m n h = grind (arith, nat_tests)

lt-false : (m n : ℕ) → nat_lt m n ≡ false → n ≤ m
lt-false m n h = grind (arith, nat_tests)

false-lt : (m n : ℕ) → n ≤ m → nat_lt m n ≡ false
false-lt m n h = grind (arith, nat_tests)

le-true : (m n : ℕ) → nat_le m n ≡ true → m ≤ n
le-true m n h = grind (arith, nat_tests)

le-false : (m n : ℕ) → nat_le m n ≡ false → n < m
le-false m n h = grind (arith, nat_tests)

true-le : (m n : ℕ) → m ≤ n → nat_le m n ≡ true
true-le m n h = grind (arith, nat_tests)

false-le : (m n : ℕ) → n < m → nat_le m n ≡ false
false-le m n h = grind (arith, nat_tests)

and-first : (a b : Bool) → (a && b) ≡ true → a ≡ true
and-first true b h = refl
and-first false b h = cc

and-second : (a b : Bool) → (a && b) ≡ true → b ≡ true
and-second true b h = h
and-second false b h = cc

-- a distance of at most a length, and of at least one
high-above : (m n : ℕ) (high : ℤ) → int_le (pos n -ℤ pos m) high ≡ true → n ≤ m + positive_part high
high-above m n (pos k) h = grind (arith, ints)
high-above m n (negsuc k) h = grind (arith, ints)

low-below : (m n : ℕ) (low : ℤ) → int_le low (pos n -ℤ pos m) ≡ true → m ≤ n + negative_part low
low-below m n (pos k) h = grind (arith, ints)
low-below m n (negsuc k) h = grind (arith, ints)

pub Each-or_alone : (P : Stamped → Type 0) (outer : Bool) (row : Stamped) (rows : List Stamped) → P row → Each P rows → Each P (or_alone outer row rows)
Each-or_alone P true row [] h k = (h, tt)
Each-or_alone P false row [] h k = tt
Each-or_alone P outer row (other ∷ rows) h k = k

max-below : (m n x : ℕ) → m < x → nat_lt (max m n) x ≡ nat_lt n x
max-below m n x h = grind (arith, nat_tests)

module _ (bound : Bound) where
  pub match-high : (a b : Stamped) → is_match bound a b ≡ true → b.time ≤ a.time + positive_part bound.high
  match-high a b h = high-above a.time b.time bound.high (and-second _ _ (and-first (is_near bound a b) (is_pair bound a b) h))

  pub match-low : (a b : Stamped) → is_match bound a b ≡ true → a.time ≤ b.time + negative_part bound.low
  match-low a b h = low-below a.time b.time bound.low (and-first _ _ (and-first (is_near bound a b) (is_pair bound a b) h))

  -- what holds of each row of a left row
  pub Each-rows_of : (P : Stamped → Type 0) (right : List Stamped) (a : Stamped) → P (alone bound a)
      → ((b : Stamped) → is_match bound a b ≡ true → P (pair_row a b)) → Each P (rows_of bound right a)
  Each-rows_of P right a h k =
      Each-or_alone P bound.outer (alone bound a) (map (pair_row a) (filter (is_match bound a) right)) h
      (Each-map P (pair_row a) (filter (is_match bound a) right) (Each-weaker _ _ (filter (is_match bound a) right) k (filter-passes (is_match bound a) right)))

  -- no row of a left row comes before it, and none later than a match may
  rows_of-none_below : (right : List Stamped) (x : ℕ) (a : Stamped) → x ≤ a.time → below x (rows_of bound right a) ≡ []
  rows_of-none_below right x a h =
      filter-none _ (rows_of bound right a)
      (Each-rows_of (λ row. nat_lt row.time x ≡ false) right a (false-lt _ x (omega arith)) (λ b m. false-lt _ x (omega arith)))

  pub rows_of-none_from : (right : List Stamped) (x : ℕ) (a : Stamped) → a.time + positive_part bound.high < x → from_on x (rows_of bound right a) ≡ []
  rows_of-none_from right x a h =
      filter-none _ (rows_of bound right a)
      (Each-rows_of (λ row. nat_le x row.time ≡ false) right a (false-le x _ (omega arith)) (λ b m. false-le x _ (omega (arith, match-high a b m))))

  -- of the pairs of an early left row, those below x are with right rows below x
  pairs-below : (x : ℕ) (a : Stamped) → a.time < x → (bs : List Stamped) → below x (map (pair_row a) bs) ≡ map (pair_row a) (below x bs)
  pairs-below x a h bs =
      filter-map (λ (row : Stamped). nat_lt row.time x) (pair_row a) bs
      ∙ ap (map (pair_row a)) (filter-alike _ (λ (b : Stamped). nat_lt b.time x) bs (Each-all _ (λ b. max-below a.time b.time x h) bs))

  below-twice : (x : ℕ) (rows : List Stamped) → below x (below x rows) ≡ below x rows
  below-twice x rows = filter-within _ _ (λ row h. h) rows

  -- a left row whose matches all come at x or later would come alone no earlier than x
  none-early : (x : ℕ) (a b : Stamped) (bs : List Stamped) → is_match bound a b ≡ true → below x (b ∷ bs) ≡ [] → x ≤ a.time + positive_part bound.high
  none-early x a b bs m e = by (nat_lt b.time x) refl e
    where
      by : (t : Bool) → nat_lt b.time x ≡ t → cond t (b ∷ below x bs) (below x bs) ≡ [] → x ≤ a.time + positive_part bound.high
      by true h k = cc
      by false h k = omega (arith, lt-false b.time x h, match-high a b m)

  matches-below : (x : ℕ) (a : Stamped) → a.time < x → (bs : List Stamped) → Each (λ b. is_match bound a b ≡ true) bs
      → below x (or_alone bound.outer (alone bound a) (map (pair_row a) bs)) ≡ below x (or_alone bound.outer (alone bound a) (map (pair_row a) (below x bs)))
  matches-below x a h [] m = refl
  matches-below x a h (b ∷ bs) m = by (below x (b ∷ bs)) refl
    where
      by : (early : List Stamped) → below x (b ∷ bs) ≡ early
          → below x (map (pair_row a) (b ∷ bs)) ≡ below x (or_alone bound.outer (alone bound a) (map (pair_row a) early))
      by [] e =
          pairs-below x a h (b ∷ bs) ∙ ap (map (pair_row a)) e
          ∙ sym (filter-none _ (or_alone bound.outer (alone bound a) [])
          (Each-or_alone (λ row. nat_lt row.time x ≡ false) bound.outer (alone bound a) [] (false-lt _ x (none-early x a b bs m.0 e)) tt))
      by (c ∷ cs) e =
          pairs-below x a h (b ∷ bs) ∙ ap (map (pair_row a)) (sym (below-twice x (b ∷ bs)) ∙ ap (below x) e)
          ∙ sym (pairs-below x a h (c ∷ cs))

  rows_of-below : (right : List Stamped) (x : ℕ) (a : Stamped) → a.time < x → below x (rows_of bound right a) ≡ below x (rows_of bound (below x right) a)
  rows_of-below right x a h =
      matches-below x a h (filter (is_match bound a) right) (filter-passes (is_match bound a) right)
      ∙ ap (λ bs. below x (or_alone bound.outer (alone bound a) (map (pair_row a) bs))) (sym (filter-swap (is_match bound a) (λ (b : Stamped). nat_lt b.time x) right))

  -- a left row that may have rows at x or later has its matches within the reach
  rows_of-from : (right : List Stamped) (x : ℕ) (a : Stamped) → from_on x (rows_of bound right a) ≡ from_on x (rows_of bound (from_on (x - bound_reach bound) right) a)
  rows_of-from right x a = by (nat_le x (a.time + positive_part bound.high)) refl
    where
      by : (t : Bool) → nat_le x (a.time + positive_part bound.high) ≡ t
          → from_on x (rows_of bound right a) ≡ from_on x (rows_of bound (from_on (x - bound_reach bound) right) a)
      by true e =
          ap (λ bs. from_on x (or_alone bound.outer (alone bound a) (map (pair_row a) bs)))
          (sym (filter-within (is_match bound a) (λ (b : Stamped). nat_le (x - bound_reach bound) b.time)
          (λ b m. true-le _ b.time (omega (arith, le-true x _ e, match-low a b m))) right))
      by false e =
          rows_of-none_from right x a (le-false x _ e)
          ∙ sym (rows_of-none_from (from_on (x - bound_reach bound) right) x a (le-false x _ e))

  -- input rows that matter to no row of a stretch may be left out
  module _ (test keeps : ℕ → Bool)
      (none : (right : List Stamped) (a : Stamped) → keeps a.time ≡ false → at_times test (rows_of bound right a) ≡ [])
      (same : (right : List Stamped) (a : Stamped) → keeps a.time ≡ true → at_times test (rows_of bound right a) ≡ at_times test (rows_of bound (at_times keeps right) a)) where
    rows-left_out : (left right : List Stamped) → at_times test (flat_map (rows_of bound right) left) ≡ at_times test (flat_map (rows_of bound (at_times keeps right)) (at_times keeps left))
    rows-left_out [] right = refl
    rows-left_out (a ∷ left) right =
        let rest = flat_map (rows_of bound (at_times keeps right)) (at_times keeps left) in
        filter-append (λ (row : Stamped). test row.time) (rows_of bound right a) (flat_map (rows_of bound right) left)
        ∙ ap (λ l. at_times test (rows_of bound right a) ++ l) (rows-left_out left right)
        ∙ elim (keeps a.time) as (λ b. keeps a.time ≡ b → at_times test (rows_of bound right a) ++ at_times test rest ≡ at_times test (flat_map (rows_of bound (at_times keeps right)) (cond b (a ∷ at_times keeps left) (at_times keeps left)))) [
          | true ↦ λ e. ap (λ l. l ++ at_times test rest) (same right a e) ∙ sym (filter-append (λ (row : Stamped). test row.time) (rows_of bound (at_times keeps right) a) rest)
          | false ↦ λ e. ap (λ l. l ++ at_times test rest) (none right a e)
        ] refl

    pub bound_join-left_out : (left right : List Stamped) → at_times test (bound_join bound left right) ≡ at_times test (bound_join bound (at_times keeps left) (at_times keeps right))
    bound_join-left_out left right =
        filter-in_order time_of _ (flat_map (rows_of bound right) left)
        ∙ ap (in_order time_of) (rows-left_out left right)
        ∙ sym (filter-in_order time_of _ (flat_map (rows_of bound (at_times keeps right)) (at_times keeps left)))

  bound_join-below : (left right : List Stamped) (x : ℕ) → below x (bound_join bound left right) ≡ below x (bound_join bound (below x left) (below x right))
  bound_join-below left right x =
      bound_join-left_out (λ t. nat_lt t x) (λ t. nat_lt t x)
      (λ right a h. rows_of-none_below right x a (lt-false a.time x h))
      (λ right a h. rows_of-below right x a (lt-true a.time x h))
      left right

  bound_join-from : (left right : List Stamped) (x : ℕ) → from_on x (bound_join bound left right) ≡ from_on x (bound_join bound (from_on (x - bound_reach bound) left) (from_on (x - bound_reach bound) right))
  bound_join-from left right x =
      bound_join-left_out (nat_le x) (nat_le (x - bound_reach bound))
      (λ right a h. rows_of-none_from right x a (omega (arith, le-false (x - bound_reach bound) a.time h)))
      (λ right a h. rows_of-from right x a)
      left right

pub bound_join-laws : {Spec : Type 0} (bounds : Spec → Bound)
    → StreamLaws (λ (spec : Spec). Unit {0}) (λ spec. bound_join (bounds spec)) (λ spec. Some (bound_reach (bounds spec)))
bound_join-laws bounds = record {
  past_only = λ spec left right x f h k. bound_join-below (bounds spec) left right x;
  in_order = λ spec left right f h k. IsInOrder-in_order time_of (flat_map (rows_of (bounds spec) right) left);
  within_reach = λ spec f left right x h k. bound_join-from (bounds spec) left right x;
}
