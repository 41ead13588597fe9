-- The moments of one row more, and the rows at one moment more.
use Rattle.std.proofs.Common.{◌≡◌, ℕ, ◌+◌, ◌<◌, Bool, true, false, cond, List, [], ◌∷◌, ◌++◌, filter, map, take, length, get_or, sym, ap, ◌∙◌, arith}
use Rattle.std.specs.List.{flat_map}
use Rattle.std.specs.Ordering.{nat_cmp}
use Rattle.std.specs.Prelude.{nat_lt}
use Rattle.std.proofs.lemmas.Bool.Decides.{nat_tests}
use Rattle.std.proofs.lemmas.Grind.{flat_map-append}
use Rattle.std.proofs.lemmas.List.{take_more}
use Rattle.std.proofs.lemmas.List.Elements.{filter-append}
use Rattle.event_value.specs.declared.record.Stamped.{Stamped}
use Rattle.event_value.specs.declared.value.Value.{Value}
use Rattle.row_groups.proofs.DistinctLemmas.{distinct-append, with_each-append}
use Rattle.row_groups.specs.Distinct.{distinct, with_each}
use Rattle.window_flow.specs.Sliding.{content, is_filled, moments_of, size_of, slide_at, slides_at}
use Rattle.window_flow.specs.declared.sliding.SlidingSpec.{SlidingSpec}

pub moments-more : (q : ℕ → Bool) (size : ℕ) (rows : List Stamped) (i : ℕ) (row : Stamped) → i < length rows → row ≡ get_or rows i row
    → with_each nat_cmp (with_each nat_cmp (distinct nat_cmp (filter q (flat_map (moments_of size) (take i rows)))) (filter q (row.time ∷ []))) (filter q ((row.time + size) ∷ []))
    ≡ distinct nat_cmp (filter q (flat_map (moments_of size) (take (i + 1) rows)))
moments-more q size rows i row h is =
    let done = flat_map (moments_of size) (take i rows) in
    let enters = row.time ∷ [] in
    let leaves = (row.time + size) ∷ [] in
    let taken : take (i + 1) rows ≡ take i rows ++ row ∷ [] = take_more rows i row h ∙ ap (λ r. take i rows ++ r ∷ []) (sym is) in
    sym (ap (λ l. distinct nat_cmp (filter q (flat_map (moments_of size) l))) taken
    ∙ ap (λ l. distinct nat_cmp (filter q l)) (flat_map-append (moments_of size) (take i rows) (row ∷ []))
    ∙ ap (distinct nat_cmp) (filter-append q done (enters ++ leaves))
    ∙ distinct-append nat_cmp (filter q done) (filter q (enters ++ leaves))
    ∙ ap (with_each nat_cmp (distinct nat_cmp (filter q done))) (filter-append q enters leaves)
    ∙ with_each-append nat_cmp (distinct nat_cmp (filter q done)) (filter q enters) (filter q leaves))

is_filled-none : (spec : SlidingSpec) (rows : List Stamped) (x : ℕ) → length (content (size_of spec) rows x) ≡ 0 → is_filled (size_of spec) rows x ≡ false
is_filled-none spec rows x h = ap (nat_lt 0) h

is_filled-some : (spec : SlidingSpec) (rows : List Stamped) (x : ℕ) → 0 < length (content (size_of spec) rows x) → is_filled (size_of spec) rows x ≡ true
is_filled-some spec rows x h = above (length (content (size_of spec) rows x)) h
  where
    above : (n : ℕ) → 0 < n → nat_lt 0 n ≡ true
    above n h = grind (arith, nat_tests)

-- a moment at which the window holds no row
pub slides_at-none : (spec : SlidingSpec) (key : List Value) (rows : List Stamped) (x : ℕ) (xs : List ℕ) → length (content (size_of spec) rows x) ≡ 0
    → slides_at spec key rows (x ∷ xs) ≡ slides_at spec key rows xs
slides_at-none spec key rows x xs h =
    ap (λ b. map (slide_at spec key rows) (cond b (x ∷ filter (is_filled (size_of spec) rows) xs) (filter (is_filled (size_of spec) rows) xs))) (is_filled-none spec rows x h)

-- a moment at which it holds some
pub slides_at-some : (spec : SlidingSpec) (key : List Value) (rows : List Stamped) (x : ℕ) (xs : List ℕ) → 0 < length (content (size_of spec) rows x)
    → slides_at spec key rows (x ∷ xs) ≡ slide_at spec key rows x ∷ slides_at spec key rows xs
slides_at-some spec key rows x xs h =
    ap (λ b. map (slide_at spec key rows) (cond b (x ∷ filter (is_filled (size_of spec) rows) xs) (filter (is_filled (size_of spec) rows) xs))) (is_filled-some spec rows x h)
