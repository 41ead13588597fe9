-- In which order rows stand, and at which moments the rows of a key are.
use Rattle.std.proofs.Common.{◌≡◌, ℕ, ◌+◌, Bool, true, false, cond, ◌||◌, List, [], ◌∷◌, filter, map, refl, sym, ap, ◌∙◌, arith}
use Rattle.std.specs.List.{flat_map, list_any}
use Rattle.std.specs.Ordering.{is_eq, nat_cmp}
use Rattle.std.specs.Prelude.{◌&&◌, ◌==◌}
use Rattle.std.proofs.lemmas.Bool.Decides.{nat_tests}
use Rattle.std.proofs.lemmas.Cmp.{nat_cmp_total}
use Rattle.event_value.specs.declared.record.Stamped.{Stamped}
use Rattle.event_value.specs.declared.value.Value.{Value}
use Rattle.row_groups.proofs.DistinctLemmas.{Rises-distinct, Rises-filter, any_ties-distinct}
use Rattle.row_groups.proofs.KeyLemmas.{key_order-total}
use Rattle.row_groups.specs.Keys.{key_order}
use Rattle.row_order.proofs.InOrderLemmas.{rows_at-in_order}
use Rattle.stream_op.specs.Rows.{time_of}
use Rattle.window_flow.specs.Laws.{AreByTimeAndPart, AreSlides, is_moment_of}
use Rattle.window_flow.specs.PartLaws.{filter-flat_map, parted-in_order}
use Rattle.window_flow.specs.Parts.{Parting, given, key_behind, parts}
use Rattle.window_flow.specs.Sliding.{is_filled, moments, moments_of, size_of}
use Rattle.window_flow.specs.declared.sliding.SlidingSpec.{SlidingSpec}

pub AreByTimeAndPart-all : (p : Parting) (rows : List Stamped) → AreByTimeAndPart p rows
AreByTimeAndPart-all p rows = record {
  by_time = parted-in_order p rows;
  parts_rise = Rises-distinct key_order key_order-total (map (key_behind 0 p.columns) rows);
  by_part = λ t. rows_at-in_order time_of t (flat_map (given p rows) (parts p rows)) ∙ filter-flat_map _ (given p rows) (parts p rows);
}

-- an element is in a filter where it is in the list and passes
list_any-filter : (q : ℕ → Bool) (x : ℕ) (xs : List ℕ) → list_any (λ t. t == x) (filter q xs) ≡ (list_any (λ t. t == x) xs && q x)
list_any-filter q x [] = refl
list_any-filter q x (t ∷ ts) = by (q t) (t == x) refl refl (list_any-filter q x ts)
  where
    rest : Bool
    rest = list_any (λ u. u == x) ts

    same : (t == x) ≡ true → q t ≡ q x
    same e = ap q (eq-of t x e)
      where
        eq-of : (m n : ℕ) → (m == n) ≡ true → m ≡ n
        eq-of m n h = grind (arith, nat_tests)

    and-false : (a : Bool) → (a && false) ≡ false
    and-false true = refl
    and-false false = refl

    by : (p e : Bool) → q t ≡ p → (t == x) ≡ e → list_any (λ u. u == x) (filter q ts) ≡ (rest && q x)
        → list_any (λ u. u == x) (cond (q t) (t ∷ filter q ts) (filter q ts)) ≡ (((t == x) || rest) && q x)
    by true true h k l =
        ap (λ b. list_any (λ u. u == x) (cond b (t ∷ filter q ts) (filter q ts))) h
        ∙ ap (λ b. b || list_any (λ u. u == x) (filter q ts)) k
        ∙ sym (ap (λ b. (b || rest) && q x) k ∙ sym (same k) ∙ h)
    by true false h k l =
        ap (λ b. list_any (λ u. u == x) (cond b (t ∷ filter q ts) (filter q ts))) h
        ∙ ap (λ b. b || list_any (λ u. u == x) (filter q ts)) k
        ∙ l ∙ sym (ap (λ b. (b || rest) && q x) k)
    by false true h k l =
        ap (λ b. list_any (λ u. u == x) (cond b (t ∷ filter q ts) (filter q ts))) h
        ∙ l ∙ ap (λ b. rest && b) (sym (same k) ∙ h) ∙ and-false rest
        ∙ sym (ap (λ b. (b || rest) && q x) k ∙ sym (same k) ∙ h)
    by false false h k l =
        ap (λ b. list_any (λ u. u == x) (cond b (t ∷ filter q ts) (filter q ts))) h
        ∙ l ∙ sym (ap (λ b. (b || rest) && q x) k)

is_eq-nat : (m n : ℕ) → is_eq (nat_cmp m n) ≡ (n == m)
is_eq-nat m n = grind (arith, nat_tests)

list_any-agree : (p q : ℕ → Bool) → ((x : ℕ) → p x ≡ q x) → (xs : List ℕ) → list_any p xs ≡ list_any q xs
list_any-agree p q same [] = refl
list_any-agree p q same (x ∷ xs) = λ i. same x i || list_any-agree p q same xs i

or-or : (a b c : Bool) → (a || (b || c)) ≡ ((a || b) || c)
or-or true b c = refl
or-or false b c = refl

moments-are : (size x : ℕ) (rows : List Stamped) → list_any (λ t. t == x) (flat_map (moments_of size) rows) ≡ is_moment_of size rows x
moments-are size x [] = refl
moments-are size x (row ∷ rows) =
    or-or (row.time == x) (row.time + size == x) (list_any (λ t. t == x) (flat_map (moments_of size) rows))
    ∙ ap (λ b. ((row.time == x) || (row.time + size == x)) || b) (moments-are size x rows)

moments-there : (size x : ℕ) (rows : List Stamped) → list_any (λ t. t == x) (moments size rows) ≡ is_moment_of size rows x
moments-there size x rows =
    sym (list_any-agree (λ t. is_eq (nat_cmp x t)) (λ t. t == x) (is_eq-nat x) (moments size rows))
    ∙ any_ties-distinct nat_cmp nat_cmp_total x (flat_map (moments_of size) rows)
    ∙ list_any-agree (λ t. is_eq (nat_cmp x t)) (λ t. t == x) (is_eq-nat x) (flat_map (moments_of size) rows)
    ∙ moments-are size x rows

pub AreSlides-all : (spec : SlidingSpec) (key : List Value) (rows : List Stamped)
    → AreSlides spec key rows (filter (is_filled (size_of spec) rows) (moments (size_of spec) rows))
AreSlides-all spec key rows = record {
  of_moments = refl;
  rise = Rises-filter nat_cmp nat_cmp_total (is_filled (size_of spec) rows) (moments (size_of spec) rows) (Rises-distinct nat_cmp nat_cmp_total (flat_map (moments_of (size_of spec)) rows));
  where_held = λ x. list_any-filter (is_filled (size_of spec) rows) x (moments (size_of spec) rows) ∙ ap (λ b. b && is_filled (size_of spec) rows x) (moments-there (size_of spec) x rows);
}
