-- The laws of windows that have ends of their own.
use Rattle.std.specs.Prelude.{◌≡◌, ℕ, ◌-◌, ◌<◌, ◌≤◌, Bool, true, false, ◌&&◌, cond, nat_lt, nat_le, List, [], ◌∷◌, ◌++◌, filter, map, refl, Some}
use Rattle.std.specs.Cmp.{IsTotalOrder, ranked}
use Rattle.std.specs.List.{AllByRecursion as Each}
use Rattle.std.specs.List.{flat_map}
use Rattle.std.specs.Ordering.{nat_cmp, ordering_then}
use Rattle.std.specs.declared.cmp.Ordering.{Ordering}
use Rattle.std.specs.declared.cmp.Ordering.TheVariants.{Less, Equal, Greater}
use Rattle.std.proofs.Common.{sym, ap, ◌∙◌, arith}
use Rattle.std.proofs.lemmas.Bool.Decides.{nat_tests}
use Rattle.std.proofs.lemmas.Cmp.{nat_cmp_total, on_total, then_total}
use Rattle.std.proofs.lemmas.List.Elements.{filter-append}
use Rattle.event_value.specs.declared.record.Stamped.{Stamped}
use Rattle.row_groups.proofs.DistinctLemmas.{Each-distinct, Rises-distinct, filter-distinct}
use Rattle.row_groups.proofs.KeyLemmas.{key_order-total}
use Rattle.row_groups.specs.Aggregates.{aggregate_values}
use Rattle.row_groups.specs.Distinct.{Rises, distinct}
use Rattle.row_groups.specs.Keys.{key_order}
use Rattle.row_order.proofs.ListLemmas.{Each-map, Each-weaker, filter-map, filter-none, filter-passes, filter-within}
use Rattle.stream_op.specs.Laws.{StreamLaws}
use Rattle.stream_op.specs.Rows.{AreInOrder}
use Rattle.stream_op.specs.Timewise.{at_times}
use Rattle.window_grid.specs.Panes.{pane_order}
use Rattle.window_grid.specs.Windows.{AreSound, Windows, content, is_in, pane_at, panes, panes_of, row_at, windowed}
use Rattle.window_grid.specs.declared.pane.Pane.{Pane}

pub pane_order-total : IsTotalOrder pane_order
pane_order-total = then_total (on_total (λ (p : Pane). p.end) nat_cmp_total) (on_total (λ (p : Pane). p.key) key_order_is_total)
  where
    key_order_is_total : IsTotalOrder key_order
    key_order_is_total = key_order-total

-- windows that tie have one end
pub ends-tied : (p q : Pane) → pane_order p q ≡ Equal → p.end ≡ q.end
ends-tied p q e = by (nat_cmp p.end q.end) refl e
  where
    by : (o : Ordering) → nat_cmp p.end q.end ≡ o → ordering_then o (key_order p.key q.key) ≡ Equal → p.end ≡ q.end
    by Less h k = cc
    by Equal h k = ranked p.end q.end Equal (sym h)
    by Greater h k = cc

ends-risen : (p q : Pane) → pane_order p q ≡ Less → p.end ≤ q.end
ends-risen p q e = by (nat_cmp p.end q.end) refl e
  where
    by : (o : Ordering) → nat_cmp p.end q.end ≡ o → ordering_then o (key_order p.key q.key) ≡ Less → p.end ≤ q.end
    by Less h k = omega (arith, ranked p.end q.end Less (sym h))
    by Equal h k = omega (arith, ranked p.end q.end Equal (sym h))
    by Greater h k = cc

-- the windows whose ends pass a test
abbrev pub ends_within : (ℕ → Bool) → Pane → Bool
ends_within test p = test p.end

pub map-agree : {A B : Type 0} (f g : A → B) (xs : List A) → Each (λ x. f x ≡ g x) xs → map f xs ≡ map g xs
map-agree f g [] h = refl
map-agree f g (x ∷ xs) h = λ i. h.0 i ∷ map-agree f g xs h.1 i

pub panes-within : (test : ℕ → Bool) (w : Windows) (rows : List Stamped)
    → filter (ends_within test) (panes w rows) ≡ distinct pane_order (filter (ends_within test) (flat_map (panes_of w) rows))
panes-within test w rows = filter-distinct pane_order pane_order-total (ends_within test) (λ p q e. ap test (ends-tied p q e)) (flat_map (panes_of w) rows)

-- the rows at the times that pass a test
pub windowed-within : (test : ℕ → Bool) (w : Windows) (rows : List Stamped)
    → at_times test (windowed w rows) ≡ map (row_at w rows) (distinct pane_order (filter (ends_within test) (flat_map (panes_of w) rows)))
windowed-within test w rows =
    filter-map (λ (row : Stamped). test row.time) (row_at w rows) (panes w rows)
    ∙ ap (map (row_at w rows)) (panes-within test w rows)

in_order-panes : (w : Windows) (rows : List Stamped) (ps : List Pane) → Rises pane_order ps → AreInOrder (map (row_at w rows) ps)
in_order-panes w rows [] h = tt
in_order-panes w rows (p ∷ ps) h = (
  Each-map (λ (row : Stamped). p.end ≤ row.time) (row_at w rows) ps (Each-weaker _ _ ps (λ q e. ends-risen p q e) h.0),
  in_order-panes w rows ps h.1,
)

pub windowed-in_order : (w : Windows) (rows : List Stamped) → AreInOrder (windowed w rows)
windowed-in_order w rows = in_order-panes w rows (panes w rows) (Rises-distinct pane_order pane_order-total (flat_map (panes_of w) rows))

and-first : (a b : Bool) → (a && b) ≡ true → a ≡ true
and-first true b h = refl
and-first false b h = cc

-- rows that matter to no window of a stretch may be left out
module _ (w : Windows) (test keeps : ℕ → Bool)
    (ends_out : (t : ℕ) → keeps t ≡ false → Each (λ e. test e ≡ false) (w.ends t))
    (holds_in : (e t : ℕ) → test e ≡ true → w.holds e t ≡ true → keeps t ≡ true) where
  panes-left_out : (rows : List Stamped) → filter (ends_within test) (flat_map (panes_of w) rows) ≡ filter (ends_within test) (flat_map (panes_of w) (at_times keeps rows))
  panes-left_out [] = refl
  panes-left_out (row ∷ rows) =
      let rest = flat_map (panes_of w) (at_times keeps rows) in
      filter-append (ends_within test) (panes_of w row) (flat_map (panes_of w) rows)
      ∙ ap (λ l. filter (ends_within test) (panes_of w row) ++ l) (panes-left_out rows)
      ∙ elim (keeps row.time) as (λ b. keeps row.time ≡ b → filter (ends_within test) (panes_of w row) ++ filter (ends_within test) rest ≡ filter (ends_within test) (flat_map (panes_of w) (cond b (row ∷ at_times keeps rows) (at_times keeps rows)))) [
        | true ↦ λ e. sym (filter-append (ends_within test) (panes_of w row) rest)
        | false ↦ λ e. ap (λ l. l ++ filter (ends_within test) rest) (filter-none (ends_within test) (panes_of w row) (Each-map (λ (p : Pane). test p.end ≡ false) (pane_at w row) (w.ends row.time) (ends_out row.time e)))
      ] refl

  content-left_out : (rows : List Stamped) (p : Pane) → test p.end ≡ true → content w rows p ≡ content w (at_times keeps rows) p
  content-left_out rows p h =
      sym (filter-within (is_in w p) (λ (row : Stamped). keeps row.time) (λ row k. holds_in p.end row.time h (and-first (w.holds p.end row.time) _ k)) rows)

  row_at-left_out : (rows : List Stamped) (p : Pane) → test p.end ≡ true → row_at w rows p ≡ row_at w (at_times keeps rows) p
  row_at-left_out rows p h = ap with_content (content-left_out rows p h)
    where
      with_content : List Stamped → Stamped
      with_content c = record { time = p.end; values = p.key ++ aggregate_values w.aggregates c }

  pub windowed-left_out : (rows : List Stamped) → at_times test (windowed w rows) ≡ at_times test (windowed w (at_times keeps rows))
  windowed-left_out rows =
      let there = filter (ends_within test) (flat_map (panes_of w) (at_times keeps rows)) in
      windowed-within test w rows
      ∙ ap (λ l. map (row_at w rows) (distinct pane_order l)) (panes-left_out rows)
      ∙ map-agree (row_at w rows) (row_at w (at_times keeps rows)) (distinct pane_order there)
      (Each-distinct pane_order (λ (p : Pane). row_at w rows p ≡ row_at w (at_times keeps rows) p) there
      (Each-weaker _ _ there (λ p e. row_at-left_out rows p e) (filter-passes (ends_within test) (flat_map (panes_of w) (at_times keeps rows)))))
      ∙ sym (windowed-within test w (at_times keeps rows))

lt-true : (m n : ℕ) → nat_lt m n ≡ true → m < n
lt-true m n h = grind (arith, nat_tests)

lt-false : (m n : ℕ) → nat_lt m n ≡ false → n ≤ m
lt-false m n h = grind (arith, nat_tests)

true-lt : (m n : ℕ) → m < n → nat_lt m n ≡ true
true-lt m n h = grind (arith, nat_tests)

false-lt : (m n : ℕ) → n ≤ m → nat_lt m n ≡ false
false-lt m n h = grind (arith, nat_tests)

le-true : (m n : ℕ) → nat_le m n ≡ true → m ≤ n
le-true m n h = grind (arith, nat_tests)

le-false : (m n : ℕ) → nat_le m n ≡ false → n < m
le-false m n h = grind (arith, nat_tests)

true-le : (m n : ℕ) → m ≤ n → nat_le m n ≡ true
true-le m n h = grind (arith, nat_tests)

false-le : (m n : ℕ) → n < m → nat_le m n ≡ false
false-le m n h = grind (arith, nat_tests)

module _ (w : Windows) (sound : AreSound w) where
  pub windowed-past : (rows : List Stamped) (x : ℕ) → at_times (λ t. nat_lt t x) (windowed w rows) ≡ at_times (λ t. nat_lt t x) (windowed w (at_times (λ t. nat_lt t x) rows))
  windowed-past rows x =
      windowed-left_out w (λ e. nat_lt e x) (λ t. nat_lt t x)
      (λ t h. Each-weaker _ _ (w.ends t) (λ e le. false-lt e x (omega (arith, lt-false t x h))) (sound.ends_later t))
      (λ e t h k. true-lt t x (omega (arith, lt-true e x h, sound.holds_earlier e t k)))
      rows

  pub windowed-reach : (rows : List Stamped) (x : ℕ) → at_times (nat_le x) (windowed w rows) ≡ at_times (nat_le x) (windowed w (at_times (nat_le (x - w.reach)) rows))
  windowed-reach rows x =
      windowed-left_out w (nat_le x) (nat_le (x - w.reach))
      (λ t h. Each-weaker _ _ (w.ends t) (λ e le. false-le x e (omega (arith, le-false (x - w.reach) t h))) (sound.ends_near t))
      (λ e t h k. true-le (x - w.reach) t (omega (arith, le-true x e h, sound.holds_near e t k)))
      rows

pub windowed-laws : {Spec : Type 0} (fits : Spec → Bool) (windows : Spec → Windows) → ((spec : Spec) → fits spec ≡ true → AreSound (windows spec))
    → StreamLaws (λ spec. fits spec ≡ true) (λ spec left right. windowed (windows spec) left) (λ spec. Some (windows spec).reach)
windowed-laws fits windows sound = record {
  past_only = λ spec left right x f a b. windowed-past (windows spec) (sound spec f) left x;
  in_order = λ spec left right f a b. windowed-in_order (windows spec) left;
  within_reach = λ spec f left right x a b. windowed-reach (windows spec) (sound spec f) left x;
}
