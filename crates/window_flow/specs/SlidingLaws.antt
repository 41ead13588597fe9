-- The rows of each key of a sliding window depend on the rows within the size before.
use Rattle.std.specs.Prelude.{◌≡◌, ℕ, ◌+◌, ◌-◌, ◌<◌, ◌≤◌, Bool, true, false, ◌&&◌, cond, nat_lt, nat_le, List, [], ◌∷◌, ◌++◌, filter, map, length, refl, Some}
use Rattle.std.specs.List.{flat_map}
use Rattle.std.specs.List.{AllByRecursion as Each}
use Rattle.std.specs.Cmp.{ranked}
use Rattle.std.specs.Ordering.{nat_cmp}
use Rattle.std.specs.declared.cmp.Ordering.TheVariants.{Equal}
use Rattle.std.proofs.Common.{sym, ap, ◌∙◌, arith}
use Rattle.std.proofs.lemmas.Bool.Decides.{nat_tests}
use Rattle.std.proofs.lemmas.Cmp.{nat_cmp_total}
use Rattle.std.proofs.lemmas.List.Elements.{filter-append}
use Rattle.event_value.specs.declared.record.Stamped.{Stamped}
use Rattle.event_value.specs.declared.value.Value.{Value}
use Rattle.row_groups.proofs.DistinctLemmas.{Each-distinct, filter-distinct}
use Rattle.row_groups.specs.Distinct.{distinct}
use Rattle.row_order.proofs.ListLemmas.{Each-filter, Each-weaker, filter-alike, filter-map, filter-none, filter-passes, filter-swap, filter-within}
use Rattle.stream_op.specs.Timewise.{at_times}
use Rattle.window_flow.specs.PartLaws.{AreSound}
use Rattle.window_flow.specs.Parts.{aggregated}
use Rattle.window_flow.specs.Sliding.{content, is_filled, is_held, moments, moments_of, size_of, slide_at, slides, sliding_parting}
use Rattle.window_flow.specs.declared.sliding.SlidingSpec.{SlidingSpec}

pub map-agree : {A B : Type 0} (f g : A → B) (xs : List A) → Each (λ x. f x ≡ g x) xs → map f xs ≡ map g xs
map-agree f g [] h = refl
map-agree f g (x ∷ xs) h = λ i. h.0 i ∷ map-agree f g xs h.1 i

-- the moments that pass a test
pub moments-within : (test : ℕ → Bool) (size : ℕ) (rows : List Stamped)
    → filter test (moments size rows) ≡ distinct nat_cmp (filter test (flat_map (moments_of size) rows))
moments-within test size rows =
    filter-distinct nat_cmp nat_cmp_total test (λ m n e. ap test (ranked m n Equal (sym e))) (flat_map (moments_of size) rows)

-- the rows at the times that pass a test
pub slides-within : (test : ℕ → Bool) (spec : SlidingSpec) (key : List Value) (rows : List Stamped)
    → at_times test (slides spec key rows) ≡ map (slide_at spec key rows) (filter (is_filled (size_of spec) rows) (distinct nat_cmp (filter test (flat_map (moments_of (size_of spec)) rows))))
slides-within test spec key rows =
    filter-map (λ (row : Stamped). test row.time) (slide_at spec key rows) (filter (is_filled (size_of spec) rows) (moments (size_of spec) rows))
    ∙ ap (map (slide_at spec key rows)) (filter-swap test (is_filled (size_of spec) rows) (moments (size_of spec) rows)
    ∙ ap (filter (is_filled (size_of spec) rows)) (moments-within test (size_of spec) rows))

-- rows that matter at no moment that passes a test may be left out
module _ (spec : SlidingSpec) (test keeps : ℕ → Bool)
    (no_moment : (t : ℕ) → keeps t ≡ false → (test t ≡ false) × (test (t + size_of spec) ≡ false))
    (holds_kept : (x t : ℕ) → test x ≡ true → t ≤ x → x < t + size_of spec → keeps t ≡ true) where
  size : ℕ
  size = size_of spec

  moments-left_out : (rows : List Stamped) → filter test (flat_map (moments_of (size_of spec)) rows) ≡ filter test (flat_map (moments_of (size_of spec)) (at_times keeps rows))
  moments-left_out [] = refl
  moments-left_out (row ∷ rows) =
      let rest = flat_map (moments_of (size_of spec)) (at_times keeps rows) in
      filter-append test (moments_of (size_of spec) row) (flat_map (moments_of (size_of spec)) rows)
      ∙ ap (λ l. filter test (moments_of (size_of spec) row) ++ l) (moments-left_out rows)
      ∙ elim (keeps row.time) as (λ b. keeps row.time ≡ b → filter test (moments_of (size_of spec) row) ++ filter test rest ≡ filter test (flat_map (moments_of (size_of spec)) (cond b (row ∷ at_times keeps rows) (at_times keeps rows)))) [
        | true ↦ λ e. sym (filter-append test (moments_of (size_of spec) row) rest)
        | false ↦ λ e. ap (λ l. l ++ filter test rest) (filter-none test (moments_of (size_of spec) row) ((no_moment row.time e).0, ((no_moment row.time e).1, tt)))
      ] refl

  held : (x t : ℕ) → (nat_le t x && nat_lt x (t + size_of spec)) ≡ true → (t ≤ x) × (x < t + size_of spec)
  held x t h = (grind (arith, nat_tests), grind (arith, nat_tests))

  content-left_out : (rows : List Stamped) (x : ℕ) → test x ≡ true → content (size_of spec) rows x ≡ content (size_of spec) (at_times keeps rows) x
  content-left_out rows x h =
      sym (filter-within (is_held (size_of spec) x) (λ (row : Stamped). keeps row.time) (λ row k. holds_kept x row.time h (held x row.time k).0 (held x row.time k).1) rows)

  pub slides-left_out : (key : List Value) (rows : List Stamped) → at_times test (slides spec key rows) ≡ at_times test (slides spec key (at_times keeps rows))
  slides-left_out key rows =
      slides-within test spec key rows
      ∙ ap (λ l. map (slide_at spec key rows) (filter (is_filled (size_of spec) rows) (distinct nat_cmp l))) (moments-left_out rows)
      ∙ ap (map (slide_at spec key rows)) (filter-alike (is_filled (size_of spec) rows) (is_filled (size_of spec) (at_times keeps rows)) there
      (Each-weaker _ _ there (λ x e. ap (λ c. nat_lt 0 (length c)) (content-left_out rows x e)) passing))
      ∙ map-agree (slide_at spec key rows) (slide_at spec key (at_times keeps rows)) (filter (is_filled (size_of spec) (at_times keeps rows)) there)
      (Each-weaker _ _ (filter (is_filled (size_of spec) (at_times keeps rows)) there) (λ x e. ap (aggregated x spec.aggs key) (content-left_out rows x e))
      (Each-filter _ (is_filled (size_of spec) (at_times keeps rows)) there passing))
      ∙ sym (slides-within test spec key (at_times keeps rows))
    where
      there : List ℕ
      there = distinct nat_cmp (filter test (flat_map (moments_of (size_of spec)) (at_times keeps rows)))

      passing : Each (λ x. test x ≡ true) there
      passing =
          Each-distinct nat_cmp (λ x. test x ≡ true) (filter test (flat_map (moments_of (size_of spec)) (at_times keeps rows)))
          (filter-passes test (flat_map (moments_of (size_of spec)) (at_times keeps rows)))

lt-false : (m n : ℕ) → nat_lt m n ≡ false → n ≤ m
lt-false m n h = grind (arith, nat_tests)

lt-true : (m n : ℕ) → nat_lt m n ≡ true → m < n
lt-true m n h = grind (arith, nat_tests)

true-lt : (m n : ℕ) → m < n → nat_lt m n ≡ true
true-lt m n h = grind (arith, nat_tests)

false-lt : (m n : ℕ) → n ≤ m → nat_lt m n ≡ false
false-lt m n h = grind (arith, nat_tests)

le-false : (m n : ℕ) → nat_le m n ≡ false → n < m
le-false m n h = grind (arith, nat_tests)

le-true : (m n : ℕ) → nat_le m n ≡ true → m ≤ n
le-true m n h = grind (arith, nat_tests)

true-le : (m n : ℕ) → m ≤ n → nat_le m n ≡ true
true-le m n h = grind (arith, nat_tests)

false-le : (m n : ℕ) → n < m → nat_le m n ≡ false
false-le m n h = grind (arith, nat_tests)

pub sliding-sound : (spec : SlidingSpec) → AreSound (sliding_parting spec) (Some (size_of spec))
sliding-sound spec = record {
  nothing = λ key. refl;
  past = λ x key rows o. slides-left_out spec (λ t. nat_lt t x) (λ t. nat_lt t x)
      (λ t e. (e, false-lt (t + size_of spec) x (omega (arith, lt-false t x e))))
      (λ y t e le lt. true-lt t x (omega (arith, lt-true y x e)))
      key rows;
  within = λ x key rows o. slides-left_out spec (nat_le x) (nat_le (x - size_of spec))
      (λ t e. (false-le x t (omega (arith, le-false (x - size_of spec) t e)), false-le x (t + size_of spec) (omega (arith, le-false (x - size_of spec) t e))))
      (λ y t e le lt. true-le (x - size_of spec) t (omega (arith, le-true x y e)))
      key rows;
}
