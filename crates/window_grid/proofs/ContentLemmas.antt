-- The rows that come with a window are its content.
use Rattle.std.proofs.Common.{◌≡◌, ℕ, suc, Bool, true, false, cond, ◌||◌, List, [], ◌∷◌, ◌++◌, filter, map, length, refl, sym, ap, ◌∙◌, arith}
use Rattle.std.specs.List.{flat_map, list_any}
use Rattle.std.specs.List.{AllByRecursion as Each}
use Rattle.std.specs.Ordering.{is_eq, nat_cmp, ordering_reverse, ordering_then}
use Rattle.std.specs.Prelude.{◌&&◌, ◌==◌, nat_lt}
use Rattle.std.specs.declared.cmp.Ordering.{Ordering}
use Rattle.std.specs.declared.cmp.Ordering.TheVariants.{Less, Equal, Greater}
use Rattle.std.proofs.lemmas.Bool.Decides.{nat_tests}
use Rattle.std.proofs.lemmas.List.{map-append}
use Rattle.event_value.specs.declared.record.Stamped.{Stamped}
use Rattle.event_value.specs.declared.value.Value.{Value}
use Rattle.row_groups.proofs.DistinctLemmas.{Each-distinct, any_ties-distinct}
use Rattle.row_groups.proofs.GroupLemmas.{items_of-append}
use Rattle.row_groups.proofs.KeyLemmas.{key_order-total}
use Rattle.row_groups.specs.Groups.{items_of, keys_of}
use Rattle.row_groups.specs.Keys.{is_same_key, key_order}
use Rattle.row_order.proofs.ListLemmas.{Each-append, Each-map}
use Rattle.window_grid.specs.Panes.{pane_order}
use Rattle.window_grid.specs.State.{with_pane}
use Rattle.window_grid.specs.WindowLaws.{pane_order-total}
use Rattle.window_grid.specs.Windows.{IsEndOnce, Windows, content, is_in, key_in, pane_at, panes, panes_of}
use Rattle.window_grid.specs.declared.pane.Pane.{Pane}

-- a row with each window that holds it
abbrev pub with_windows : Windows → Stamped → List (Pane × Stamped)
with_windows w row = map (with_pane w row) (w.ends row.time)

is_eq-then : (o r : Ordering) → is_eq (ordering_then o r) ≡ (is_eq o && is_eq r)
is_eq-then Less r = refl
is_eq-then Equal r = refl
is_eq-then Greater r = refl

is_eq-nat : (m n : ℕ) → is_eq (nat_cmp m n) ≡ (n == m)
is_eq-nat m n = grind (arith, nat_tests)

is_same_key-back : (a b : List Value) → is_same_key a b ≡ is_same_key b a
is_same_key-back a b = ap is_eq (key_order-total.antisymm a b) ∙ reversed (key_order b a)
  where
    reversed : (o : Ordering) → is_eq (ordering_reverse o) ≡ is_eq o
    reversed Less = refl
    reversed Equal = refl
    reversed Greater = refl

-- of a row with some ends, what comes with a window: the row once for each end that is the window's
items_of-ends : (w : Windows) (row : Stamped) (p : Pane) (es : List ℕ)
    → items_of pane_order (map (with_pane w row) es) p ≡ map (λ (e : ℕ). row) (filter (λ e. (e == p.end) && is_same_key (key_in w row) p.key) es)
items_of-ends w row p [] = refl
items_of-ends w row p (e ∷ es) =
    ap (λ (b : Bool). map (λ (x : Pane × Stamped). x.1) (cond b (with_pane w row e ∷ filter (λ (x : Pane × Stamped). is_eq (pane_order p x.0)) (map (with_pane w row) es)) (filter (λ (x : Pane × Stamped). is_eq (pane_order p x.0)) (map (with_pane w row) es)))) ties
    ∙ by ((e == p.end) && is_same_key (key_in w row) p.key) (items_of-ends w row p es)
  where
    ties : is_eq (pane_order p (pane_at w row e)) ≡ ((e == p.end) && is_same_key (key_in w row) p.key)
    ties =
        is_eq-then (nat_cmp p.end e) (key_order p.key (key_in w row))
        ∙ ap (λ (b : Bool). b && is_same_key p.key (key_in w row)) (is_eq-nat p.end e)
        ∙ ap (λ (b : Bool). (e == p.end) && b) (is_same_key-back p.key (key_in w row))

    by : (b : Bool) → items_of pane_order (map (with_pane w row) es) p ≡ map (λ (e : ℕ). row) (filter (λ f. (f == p.end) && is_same_key (key_in w row) p.key) es)
        → map (λ (x : Pane × Stamped). x.1) (cond b (with_pane w row e ∷ filter (λ (x : Pane × Stamped). is_eq (pane_order p x.0)) (map (with_pane w row) es)) (filter (λ (x : Pane × Stamped). is_eq (pane_order p x.0)) (map (with_pane w row) es)))
        ≡ map (λ (e : ℕ). row) (cond b (e ∷ filter (λ f. (f == p.end) && is_same_key (key_in w row) p.key) es) (filter (λ f. (f == p.end) && is_same_key (key_in w row) p.key) es))
    by true rest = ap (λ l. row ∷ l) rest
    by false rest = rest

filter-and : (q : ℕ → Bool) (c : Bool) (es : List ℕ) → filter (λ e. q e && c) es ≡ cond c (filter q es) []
filter-and q true [] = refl
filter-and q false [] = refl
filter-and q true (e ∷ es) =
    elim (q e) as (λ b. cond (b && true) (e ∷ filter (λ f. q f && true) es) (filter (λ f. q f && true) es) ≡ cond b (e ∷ filter q es) (filter q es)) [
      | true ↦ ap (λ l. e ∷ l) (filter-and q true es)
      | false ↦ filter-and q true es
    ]
filter-and q false (e ∷ es) =
    elim (q e) as (λ b. cond (b && false) (e ∷ filter (λ f. q f && false) es) (filter (λ f. q f && false) es) ≡ []) [
      | true ↦ filter-and q false es
      | false ↦ filter-and q false es
    ]

-- a row comes with a window exactly where the window holds it, and then once
items_of-row : (w : Windows) (row : Stamped) (p : Pane) → IsEndOnce w p.end → items_of pane_order (with_windows w row) p ≡ cond (is_in w p row) (row ∷ []) []
items_of-row w row p once =
    items_of-ends w row p (w.ends row.time)
    ∙ ap (map (λ (e : ℕ). row)) (filter-and (λ e. e == p.end) (is_same_key (key_in w row) p.key) (w.ends row.time)
    ∙ ap (λ l. cond (is_same_key (key_in w row) p.key) l []) (once row.time))
    ∙ by (w.holds p.end row.time) (is_same_key (key_in w row) p.key)
  where
    by : (a b : Bool) → map (λ (e : ℕ). row) (cond b (cond a (p.end ∷ []) []) []) ≡ cond (a && b) (row ∷ []) []
    by true true = refl
    by true false = refl
    by false true = refl
    by false false = refl

-- the rows that come with a window are its content
pub items_of-content : (w : Windows) (rows : List Stamped) (p : Pane) → IsEndOnce w p.end → items_of pane_order (flat_map (with_windows w) rows) p ≡ content w rows p
items_of-content w [] p once = refl
items_of-content w (row ∷ rows) p once =
    items_of-append pane_order (with_windows w row) (flat_map (with_windows w) rows) p
    ∙ ap (λ l. l ++ items_of pane_order (flat_map (with_windows w) rows) p) (items_of-row w row p once)
    ∙ ap (λ l. cond (is_in w p row) (row ∷ []) [] ++ l) (items_of-content w rows p once)
    ∙ push (is_in w p row)
  where
    push : (b : Bool) → cond b (row ∷ []) [] ++ content w rows p ≡ cond b (row ∷ content w rows p) (content w rows p)
    push true = refl
    push false = refl

keys_of-row : (w : Windows) (row : Stamped) (es : List ℕ) → keys_of (map (with_pane w row) es) ≡ map (pane_at w row) es
keys_of-row w row [] = refl
keys_of-row w row (e ∷ es) = ap (λ l. pane_at w row e ∷ l) (keys_of-row w row es)

-- the windows that rows come with are those that hold them
pub keys_of-windows : (w : Windows) (rows : List Stamped) → keys_of (flat_map (with_windows w) rows) ≡ flat_map (panes_of w) rows
keys_of-windows w [] = refl
keys_of-windows w (row ∷ rows) =
    map-append (λ (x : Pane × Stamped). x.0) (with_windows w row) (flat_map (with_windows w) rows)
    ∙ ap (λ l. l ++ keys_of (flat_map (with_windows w) rows)) (keys_of-row w row (w.ends row.time))
    ∙ ap (λ l. panes_of w row ++ l) (keys_of-windows w rows)

Each-windows : (P : Pane → Type 0) (w : Windows) → ((row : Stamped) → Each P (panes_of w row)) → (rows : List Stamped) → Each P (flat_map (panes_of w) rows)
Each-windows P w h [] = tt
Each-windows P w h (row ∷ rows) = Each-append P (panes_of w row) (flat_map (panes_of w) rows) (h row) (Each-windows P w h rows)

-- what holds of each end holds of the end of each window
pub Each-panes : (P : ℕ → Type 0) (w : Windows) → ((t : ℕ) → Each P (w.ends t)) → (rows : List Stamped) → Each (λ (p : Pane). P p.end) (panes w rows)
Each-panes P w h rows =
    Each-distinct pane_order (λ (p : Pane). P p.end) (flat_map (panes_of w) rows)
    (Each-windows (λ (p : Pane). P p.end) w (λ row. Each-map (λ (p : Pane). P p.end) (pane_at w row) (w.ends row.time) (h row.time)) rows)

true-lt : (n : ℕ) → true ≡ nat_lt 0 (suc n)
true-lt n = grind (arith, nat_tests)

list_any-filter : {X : Type 0} (q : X → Bool) (xs : List X) → list_any q xs ≡ nat_lt 0 (length (filter q xs))
list_any-filter q [] = refl
list_any-filter q (x ∷ xs) =
    elim (q x) as (λ b. (b || list_any q xs) ≡ nat_lt 0 (length (cond b (x ∷ filter q xs) (filter q xs)))) [
      | true ↦ true-lt (length (filter q xs))
      | false ↦ list_any-filter q xs
    ]

list_any-map : {X Y : Type 0} (q : Y → Bool) (f : X → Y) (xs : List X) → list_any q (map f xs) ≡ list_any (λ x. q (f x)) xs
list_any-map q f [] = refl
list_any-map q f (x ∷ xs) = ap (λ b. q (f x) || b) (list_any-map q f xs)

length-map : {X Y : Type 0} (f : X → Y) (xs : List X) → length (map f xs) ≡ length xs
length-map f [] = refl
length-map f (x ∷ xs) = ap suc (length-map f xs)

-- there is a window at an end exactly where the content isn't empty
pub any_pane-content : (w : Windows) (rows : List Stamped) (p : Pane) → IsEndOnce w p.end
    → list_any (λ q. is_eq (pane_order p q)) (panes w rows) ≡ nat_lt 0 (length (content w rows p))
any_pane-content w rows p once =
    any_ties-distinct pane_order pane_order-total p (flat_map (panes_of w) rows)
    ∙ ap (list_any (λ q. is_eq (pane_order p q))) (sym (keys_of-windows w rows))
    ∙ list_any-map (λ q. is_eq (pane_order p q)) (λ (x : Pane × Stamped). x.0) (flat_map (with_windows w) rows)
    ∙ list_any-filter (λ (x : Pane × Stamped). is_eq (pane_order p x.0)) (flat_map (with_windows w) rows)
    ∙ ap (nat_lt 0) (sym (length-map (λ (x : Pane × Stamped). x.1) (filter (λ (x : Pane × Stamped). is_eq (pane_order p x.0)) (flat_map (with_windows w) rows)))
    ∙ ap length (items_of-content w rows p once))
