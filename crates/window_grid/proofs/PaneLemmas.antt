-- The order that `Pane` derives, by which maps keep windows, is the order of windows.
use Rattle.std.proofs.Common.{◌≡◌, ℕ, true, false, List, [], ◌∷◌, filter, refl, ap, ◌∙◌, arith}
use Rattle.std.specs.Cmp.Lexicographic.{slice_cmp}
use Rattle.std.specs.List.Sorted.{IsStrictlySortedBy}
use Rattle.std.specs.Ordering.{is_gt, is_le, nat_cmp, ordering_then}
use Rattle.std.specs.Prelude.{nat_le, nat_lt}
use Rattle.std.specs.declared.cmp.Ordering.{Ordering}
use Rattle.std.specs.declared.cmp.Ordering.TheVariants.{Less, Equal, Greater}
use Rattle.std.proofs.lemmas.Bool.Decides.{nat_tests}
use Rattle.std.proofs.lemmas.List.Elements.{filter_agree}
use Rattle.event_value.proofs.DerivedOrderLemmas.{derived_order-is}
use Rattle.event_value.specs.declared.value.Value.{Value}
use Rattle.row_groups.specs.Distinct.{Rises}
use Rattle.row_groups.specs.Keys.{key_order}
use Rattle.row_groups.specs.declared.tally.Tally.{Tally}
use Rattle.window_grid.specs.Panes.{pane_order}
use Rattle.window_grid.specs.State.{Tallied, closed_at, kept_at}
use Rattle.window_grid.specs.contracts.pane.PaneOrd.TheImpl.{ghosts}
use Rattle.window_grid.specs.declared.pane.Pane.{Pane}

derived : (p q : Pane) → ghosts.cmp p q ≡ pane_order p q
derived p q = ap (λ (R : Value → Value → Ordering). ordering_then (nat_cmp p.end q.end) (slice_cmp R p.key q.key)) derived_order-is

pub derived_pane_order-is : ◌≡◌ {A = Pane → Pane → Ordering} ghosts.cmp pane_order
derived_pane_order-is = λ i p q. derived p q i

-- ---- the windows that end below a moment

abbrev pub first_at : ℕ → Pane
first_at u = record { end = u; key = [] }

is_gt-then : (o r : Ordering) → is_gt r ≡ false → is_gt (ordering_then o r) ≡ is_gt o
is_gt-then Less r h = refl
is_gt-then Equal r h = h
is_gt-then Greater r h = refl

is_le-then : (o r : Ordering) → is_le r ≡ true → is_le (ordering_then o r) ≡ is_le o
is_le-then Less r h = refl
is_le-then Equal r h = h
is_le-then Greater r h = refl

is_gt-nat : (m n : ℕ) → is_gt (nat_cmp m n) ≡ nat_lt n m
is_gt-nat m n = grind (arith, nat_tests)

is_le-nat : (m n : ℕ) → is_le (nat_cmp m n) ≡ nat_le m n
is_le-nat m n = grind (arith, nat_tests)

-- no key is below the one without values
no_key_below : (key : List Value) → is_gt (key_order [] key) ≡ false
no_key_below [] = refl
no_key_below (v ∷ key) = refl

no_key_above : (key : List Value) → is_le (key_order [] key) ≡ true
no_key_above [] = refl
no_key_above (v ∷ key) = refl

is_gt-first : (u : ℕ) (p : Pane) → is_gt (ghosts.cmp (first_at u) p) ≡ nat_lt p.end u
is_gt-first u p =
    ap is_gt (derived (first_at u) p)
    ∙ is_gt-then (nat_cmp u p.end) (key_order [] p.key) (no_key_below p.key)
    ∙ is_gt-nat u p.end

is_le-first : (u : ℕ) (p : Pane) → is_le (ghosts.cmp (first_at u) p) ≡ nat_le u p.end
is_le-first u p =
    ap is_le (derived (first_at u) p)
    ∙ is_le-then (nat_cmp u p.end) (key_order [] p.key) (no_key_above p.key)
    ∙ is_le-nat u p.end

pub closed_at-below : (u : ℕ) (gs : Tallied) → filter (λ (g : Pane × List Tally). is_gt (ghosts.cmp (first_at u) g.0)) gs ≡ closed_at u gs
closed_at-below u gs = filter_agree _ _ (λ (g : Pane × List Tally). is_gt-first u g.0) gs

pub kept_at-from : (u : ℕ) (gs : Tallied) → filter (λ (g : Pane × List Tally). is_le (ghosts.cmp (first_at u) g.0)) gs ≡ kept_at u gs
kept_at-from u gs = filter_agree _ _ (λ (g : Pane × List Tally). is_le-first u g.0) gs

-- ---- windows in a map ascend

pub Rises-sorted : {K : Type 0} (R : K → K → Ordering) (ks : List K) → IsStrictlySortedBy R ks → Rises R ks
unfolding IsStrictlySortedBy
Rises-sorted R [] h = tt
Rises-sorted R (k ∷ ks) h = (h.0, Rises-sorted R ks h.1)
