-- Rows by their keys, one row more; and what the parts give.
use Rattle.std.proofs.Common.{◌≡◌, ℕ, ◌+◌, ◌<◌, List, [], ◌∷◌, ◌++◌, map, take, length, get_or, refl, sym, ap, ◌∙◌, append-nil, append_assoc}
use Rattle.std.specs.Cmp.Lexicographic.{slice_cmp}
use Rattle.std.specs.List.{flat_map, fold}
use Rattle.std.specs.List.Sorted.{IsStrictlySortedBy}
use Rattle.std.specs.Ordering.{is_eq}
use Rattle.std.specs.declared.cmp.Ordering.{Ordering}
use Rattle.std.proofs.lemmas.List.{map-append, take_more}
use Rattle.event_value.proofs.DerivedOrderLemmas.{derived_order-is}
use Rattle.event_value.specs.contracts.value.ValueOrd.TheImpl.{ghosts}
use Rattle.event_value.specs.declared.record.Stamped.{Stamped}
use Rattle.event_value.specs.declared.value.Value.{Value}
use Rattle.row_groups.proofs.GroupLemmas.{grouped-more}
use Rattle.row_groups.proofs.KeyLemmas.{key_order-total}
use Rattle.row_groups.specs.Distinct.{Rises, distinct}
use Rattle.row_groups.specs.Groups.{group, grouped, items_of, keys_of, with_item, with_value}
use Rattle.row_groups.specs.Keys.{key_order}
use Rattle.row_order.proofs.InOrderLemmas.{filter-in_order}
use Rattle.row_order.proofs.ListLemmas.{Each-all, Each-map, filter-map}
use Rattle.row_order.proofs.StretchLemmas.{IsInOrder-filter}
use Rattle.row_order.specs.InOrder.{in_order}
use Rattle.stream_op.specs.Rows.{AreInOrder, between, time_of}
use Rattle.window_flow.specs.Groups.{EachInOrder, given_by, groups_of, with_last}
use Rattle.window_flow.specs.PartLaws.{filter-flat_map}
use Rattle.window_flow.specs.Parts.{Parting, given, has_key, key_behind, keys_behind, parted, parts, rows_of_key}

-- a row with its key
abbrev pub keyed : ℕ → ℕ → Stamped → List Value × Stamped
keyed others columns row = (key_behind others columns row, row)

keys_of-keyed : (others columns : ℕ) (rows : List Stamped) → keys_of (map (keyed others columns) rows) ≡ map (key_behind others columns) rows
keys_of-keyed others columns [] = refl
keys_of-keyed others columns (row ∷ rows) = ap (λ l. key_behind others columns row ∷ l) (keys_of-keyed others columns rows)

rows_of-keyed : (others columns : ℕ) (rows : List Stamped) → map (λ (x : List Value × Stamped). x.1) (map (keyed others columns) rows) ≡ rows
rows_of-keyed others columns [] = refl
rows_of-keyed others columns (row ∷ rows) = ap (λ l. row ∷ l) (rows_of-keyed others columns rows)

items_of-keyed : (others columns : ℕ) (rows : List Stamped) (key : List Value)
    → items_of key_order (map (keyed others columns) rows) key ≡ rows_of_key others columns rows key
items_of-keyed others columns rows key =
    ap (map (λ (x : List Value × Stamped). x.1)) (filter-map (λ (x : List Value × Stamped). is_eq (key_order key x.0)) (keyed others columns) rows)
    ∙ rows_of-keyed others columns (rows_of_key others columns rows key)

fold-with_last : (done rows : List Stamped) → fold with_last done rows ≡ done ++ rows
fold-with_last done [] = sym (append-nil done)
fold-with_last done (row ∷ rows) = fold-with_last (done ++ row ∷ []) rows ∙ append_assoc done (row ∷ []) rows

grouped-keyed : (others columns : ℕ) (rows : List Stamped) → grouped key_order [] with_last (map (keyed others columns) rows) ≡ groups_of others columns rows
grouped-keyed others columns rows =
    ap (λ ks. map (with_value (group key_order [] with_last (map (keyed others columns) rows))) (distinct key_order ks)) (keys_of-keyed others columns rows)
    ∙ ap (λ (f : List Value → List Stamped). map (with_value f) (keys_behind others columns rows)) (λ i key. same key i)
  where
    same : (key : List Value) → group key_order [] with_last (map (keyed others columns) rows) key ≡ rows_of_key others columns rows key
    same key = fold-with_last [] (items_of key_order (map (keyed others columns) rows) key) ∙ items_of-keyed others columns rows key

-- one row more
pub groups_of-more : (others columns : ℕ) (rows : List Stamped) (i : ℕ) (row : Stamped) → i < length rows → row ≡ get_or rows i row
    → with_item key_order [] with_last (groups_of others columns (take i rows)) (key_behind others columns row) row ≡ groups_of others columns (take (i + 1) rows)
groups_of-more others columns rows i row h is =
    ap (λ gs. with_item key_order [] with_last gs (key_behind others columns row) row) (sym (grouped-keyed others columns (take i rows)))
    ∙ grouped-more key_order [] with_last key_order-total (map (keyed others columns) (take i rows)) (key_behind others columns row) row
    ∙ ap (grouped key_order [] with_last) (sym (map-append (keyed others columns) (take i rows) (row ∷ [])) ∙ ap (map (keyed others columns)) (sym taken))
    ∙ grouped-keyed others columns (take (i + 1) rows)
  where
    taken : take (i + 1) rows ≡ take i rows ++ row ∷ []
    taken = take_more rows i row h ∙ ap (λ r. take i rows ++ r ∷ []) (sym is)

-- the order that keys derive, by which maps keep them, is the order of keys
pub derived_key_order-is : ◌≡◌ {A = List Value → List Value → Ordering} (slice_cmp ghosts.cmp) key_order
derived_key_order-is = ap (λ (R : Value → Value → Ordering). slice_cmp R) derived_order-is

-- the rows of each part of rows in order are in order
pub EachInOrder-groups_of : (others columns : ℕ) (rows : List Stamped) → AreInOrder rows → EachInOrder (groups_of others columns rows)
EachInOrder-groups_of others columns rows o =
    Each-map (λ (g : List Value × List Stamped). AreInOrder g.1) (with_value (rows_of_key others columns rows)) (keys_behind others columns rows)
    (Each-all _ (λ key. IsInOrder-filter time_of (has_key others columns key) rows o) (keys_behind others columns rows))

flat_map-groups : (p : Parting) (v w : ℕ) (rows : List Stamped) (keys : List (List Value))
    → flat_map (given_by p v w) (map (with_value (rows_of_key 0 p.columns rows)) keys) ≡ flat_map (λ key. between v w (given p rows key)) keys
flat_map-groups p v w rows [] = refl
flat_map-groups p v w rows (key ∷ keys) = ap (λ l. between v w (given p rows key) ++ l) (flat_map-groups p v w rows keys)

-- what the parts give in a stretch is the stretch of what they give
pub given_by-parted : (p : Parting) (v w : ℕ) (rows : List Stamped)
    → in_order time_of (flat_map (given_by p v w) (groups_of 0 p.columns rows)) ≡ between v w (parted p rows)
given_by-parted p v w rows =
    ap (in_order time_of) (flat_map-groups p v w rows (parts p rows) ∙ sym (filter-flat_map _ (given p rows) (parts p rows)))
    ∙ sym (filter-in_order time_of _ (flat_map (given p rows) (parts p rows)))

pub Rises-sorted : {K : Type 0} (R : K → K → Ordering) (ks : List K) → IsStrictlySortedBy R ks → Rises R ks
unfolding IsStrictlySortedBy
Rises-sorted R [] h = tt
Rises-sorted R (k ∷ ks) h = (h.0, Rises-sorted R ks h.1)
