-- The laws of rows that are judged part by part.
use Rattle.std.specs.Prelude.{◌≡◌, ℕ, ◌-◌, Bool, true, false, ◌&&◌, ◌||◌, cond, nat_le, nat_lt, List, [], ◌∷◌, ◌++◌, filter, map, refl, Option, Some, None}
use Rattle.std.specs.List.{flat_map, list_any}
use Rattle.std.specs.Ordering.{is_eq}
use Rattle.std.specs.declared.cmp.Ordering.{Ordering}
use Rattle.std.specs.declared.cmp.Ordering.TheVariants.{Less, Equal, Greater}
use Rattle.std.proofs.Common.{sym, ap, ◌∙◌}
use Rattle.std.proofs.lemmas.List.Elements.{filter-append}
use Rattle.event_value.specs.declared.record.Stamped.{Stamped}
use Rattle.event_value.specs.declared.value.Value.{Value}
use Rattle.row_groups.proofs.DistinctLemmas.{distinct-same, filter-distinct}
use Rattle.row_groups.proofs.KeyLemmas.{key_order-exact, key_order-total}
use Rattle.row_groups.specs.Keys.{key_order}
use Rattle.row_order.specs.InOrder.{in_order}
use Rattle.row_order.proofs.InOrderLemmas.{IsInOrder-in_order, filter-in_order}
use Rattle.row_order.proofs.ListLemmas.{filter-swap}
use Rattle.row_order.proofs.StretchLemmas.{IsInOrder-filter}
use Rattle.stream_op.specs.Laws.{IsWithinReach, StreamLaws}
use Rattle.stream_op.specs.Rows.{AreInOrder, time_of}
use Rattle.stream_op.specs.Timewise.{at_times}
use Rattle.window_flow.specs.Parts.{Parting, given, has_key, key_behind, parted, parts, rows_of_key}

-- at the times that pass a test, what a part gives depends on the rows at the times that pass
-- another test alone
abbrev pub DependsOn : Parting → (ℕ → Bool) → (ℕ → Bool) → Type 0
DependsOn p test keeps = (part : List Value) (rows : List Stamped) → AreInOrder rows
    → at_times test (p.rows part rows) ≡ at_times test (p.rows part (at_times keeps rows))

abbrev pub DependsWithin : Option ℕ → Parting → Type 0
DependsWithin None p = Unit {0}
DependsWithin (Some n) p = (x : ℕ) → DependsOn p (nat_le x) (nat_le (x - n))

-- what parts owe: nothing comes of nothing, later rows change nothing, nor do rows further back
-- than the reach
pub record AreSound (p : Parting) (reach : Option ℕ) : Type 0 where
  pub nothing : (part : List Value) → p.rows part [] ≡ []
  pub past : (x : ℕ) → DependsOn p (λ t. nat_lt t x) (λ t. nat_lt t x)
  pub within : DependsWithin reach p

-- whether some row has a key
abbrev any_has : ℕ → List Stamped → List Value → Bool
any_has columns rows key = list_any (λ k. is_eq (key_order key k)) (map (key_behind 0 columns) rows)

none_has : (columns : ℕ) (rows : List Stamped) (key : List Value) → any_has columns rows key ≡ false → rows_of_key 0 columns rows key ≡ []
none_has columns [] key h = refl
none_has columns (row ∷ rows) key h = by (none_has columns rows key) (has_key 0 columns key row) refl h
  where
    by : (any_has columns rows key ≡ false → rows_of_key 0 columns rows key ≡ []) → (b : Bool) → has_key 0 columns key row ≡ b
        → (b || any_has columns rows key) ≡ false → rows_of_key 0 columns (row ∷ rows) key ≡ []
    by rest true e k = cc
    by rest false e k = ap (λ b. cond b (row ∷ rows_of_key 0 columns rows key) (rows_of_key 0 columns rows key)) e ∙ rest k

-- elements that give nothing may be left out
flat_map-left_out : {X : Type 0} (f : X → List Stamped) (q : X → Bool) → ((x : X) → q x ≡ false → f x ≡ []) → (xs : List X)
    → flat_map f (filter q xs) ≡ flat_map f xs
flat_map-left_out f q none [] = refl
flat_map-left_out f q none (x ∷ xs) =
    elim (q x) as (λ b. q x ≡ b → flat_map f (cond b (x ∷ filter q xs) (filter q xs)) ≡ f x ++ flat_map f xs) [
      | true ↦ λ e. ap (λ l. f x ++ l) (flat_map-left_out f q none xs)
      | false ↦ λ e. flat_map-left_out f q none xs ∙ ap (λ l. l ++ flat_map f xs) (sym (none x e))
    ] refl

flat_map-agree : {X : Type 0} (f g : X → List Stamped) → ((x : X) → f x ≡ g x) → (xs : List X) → flat_map f xs ≡ flat_map g xs
flat_map-agree f g same [] = refl
flat_map-agree f g same (x ∷ xs) = λ i. same x i ++ flat_map-agree f g same xs i

pub filter-flat_map : {X : Type 0} (q : Stamped → Bool) (f : X → List Stamped) (xs : List X)
    → filter q (flat_map f xs) ≡ flat_map (λ x. filter q (f x)) xs
filter-flat_map q f [] = refl
filter-flat_map q f (x ∷ xs) = filter-append q (f x) (flat_map f xs) ∙ ap (λ l. filter q (f x) ++ l) (filter-flat_map q f xs)

-- what ties with a key among those that pass a test that tells apart nothing that ties
any-filter : (q : List Value → Bool) → ((a b : List Value) → key_order a b ≡ Equal → q a ≡ q b) → (k : List Value) (xs : List (List Value))
    → list_any (λ b. is_eq (key_order k b)) (filter q xs) ≡ (list_any (λ b. is_eq (key_order k b)) xs && q k)
any-filter q alike k [] = refl
any-filter q alike k (x ∷ xs) = by (q x) (is_eq (key_order k x)) refl refl (any-filter q alike k xs)
  where
    rest : Bool
    rest = list_any (λ b. is_eq (key_order k b)) xs

    eq_of : (o : Ordering) → is_eq o ≡ true → o ≡ Equal
    eq_of Less e = cc
    eq_of Equal e = refl
    eq_of Greater e = cc

    and-false : (a : Bool) → (a && false) ≡ false
    and-false true = refl
    and-false false = refl

    by : (p t : Bool) → q x ≡ p → is_eq (key_order k x) ≡ t → list_any (λ b. is_eq (key_order k b)) (filter q xs) ≡ (rest && q k)
        → list_any (λ b. is_eq (key_order k b)) (cond (q x) (x ∷ filter q xs) (filter q xs)) ≡ ((is_eq (key_order k x) || rest) && q k)
    by true true p t e =
        let qk : q k ≡ true = alike k x (eq_of (key_order k x) t) ∙ p in
        ap (λ b. list_any (λ c. is_eq (key_order k c)) (cond b (x ∷ filter q xs) (filter q xs))) p
        ∙ ap (λ b. b || list_any (λ c. is_eq (key_order k c)) (filter q xs)) t
        ∙ sym (ap (λ b. (b || rest) && q k) t ∙ qk)
    by true false p t e =
        ap (λ b. list_any (λ c. is_eq (key_order k c)) (cond b (x ∷ filter q xs) (filter q xs))) p
        ∙ ap (λ b. b || list_any (λ c. is_eq (key_order k c)) (filter q xs)) t
        ∙ e ∙ sym (ap (λ b. (b || rest) && q k) t)
    by false true p t e =
        let qk : q k ≡ false = alike k x (eq_of (key_order k x) t) ∙ p in
        ap (λ b. list_any (λ c. is_eq (key_order k c)) (cond b (x ∷ filter q xs) (filter q xs))) p
        ∙ e ∙ ap (λ b. rest && b) qk ∙ and-false rest
        ∙ sym (ap (λ b. (is_eq (key_order k x) || rest) && b) qk ∙ and-false (is_eq (key_order k x) || rest))
    by false false p t e =
        ap (λ b. list_any (λ c. is_eq (key_order k c)) (cond b (x ∷ filter q xs) (filter q xs))) p
        ∙ e ∙ sym (ap (λ b. (b || rest) && q k) t)

-- a key that some row of a part of the rows has, some row has
any_has-more : (columns : ℕ) (keeps : ℕ → Bool) (rows : List Stamped) (key : List Value) → any_has columns (at_times keeps rows) key ≡ true
    → any_has columns rows key ≡ true
any_has-more columns keeps [] key h = h
any_has-more columns keeps (row ∷ rows) key h =
    elim (has_key 0 columns key row) as (λ b. has_key 0 columns key row ≡ b → (b || any_has columns rows key) ≡ true) [
      | true ↦ λ e. refl
      | false ↦ λ e. any_has-more columns keeps rows key (elim (keeps row.time) as (λ t. any_has columns (cond t (row ∷ at_times keeps rows) (at_times keeps rows)) key ≡ true → any_has columns (at_times keeps rows) key ≡ true) [
        | true ↦ λ m. sym (ap (λ b. b || any_has columns (at_times keeps rows) key) e) ∙ m
        | false ↦ λ m. m
      ] h)
    ] refl

-- the parts of some of the rows
parts-kept : (p : Parting) (keeps : ℕ → Bool) (rows : List Stamped) → filter (any_has p.columns (at_times keeps rows)) (parts p rows) ≡ parts p (at_times keeps rows)
parts-kept p keeps rows =
    filter-distinct key_order key_order-total (any_has p.columns kept) alike (map (key_behind 0 p.columns) rows)
    ∙ distinct-same key_order key_order-total key_order-exact (filter (any_has p.columns kept) (map (key_behind 0 p.columns) rows)) (map (key_behind 0 p.columns) kept)
    (λ k. any-filter (any_has p.columns kept) alike k (map (key_behind 0 p.columns) rows) ∙ both (any_has p.columns rows k) (any_has p.columns kept k) (any_has-more p.columns keeps rows k))
  where
    kept : List Stamped
    kept = at_times keeps rows

    alike : (a b : List Value) → key_order a b ≡ Equal → any_has p.columns kept a ≡ any_has p.columns kept b
    alike a b e = ap (any_has p.columns kept) (key_order-exact a b e)

    both : (a b : Bool) → (b ≡ true → a ≡ true) → (a && b) ≡ b
    both true b h = refl
    both false true h = h refl
    both false false h = refl

-- rows on which nothing depends in any part may be left out
pub parted-left_out : (p : Parting) (test keeps : ℕ → Bool) → ((part : List Value) → p.rows part [] ≡ []) → DependsOn p test keeps
    → (rows : List Stamped) → AreInOrder rows → at_times test (parted p rows) ≡ at_times test (parted p (at_times keeps rows))
parted-left_out p test keeps nothing depends rows o =
    filter-in_order time_of (λ (row : Stamped). test row.time) (flat_map (given p rows) (parts p rows))
    ∙ ap (in_order_of) (filter-flat_map (λ (row : Stamped). test row.time) (given p rows) (parts p rows)
    ∙ flat_map-agree (λ part. at_times test (given p rows part)) (λ part. at_times test (given p kept part)) same (parts p rows)
    ∙ sym (flat_map-left_out (λ part. at_times test (given p kept part)) (any_has p.columns kept) none (parts p rows))
    ∙ ap (flat_map (λ part. at_times test (given p kept part))) (parts-kept p keeps rows)
    ∙ sym (filter-flat_map (λ (row : Stamped). test row.time) (given p kept) (parts p kept)))
    ∙ sym (filter-in_order time_of (λ (row : Stamped). test row.time) (flat_map (given p kept) (parts p kept)))
  where
    kept : List Stamped
    kept = at_times keeps rows

    in_order_of : List Stamped → List Stamped
    in_order_of l = in_order time_of l

    same : (part : List Value) → at_times test (given p rows part) ≡ at_times test (given p kept part)
    same part =
        depends part (rows_of_key 0 p.columns rows part) (IsInOrder-filter time_of (has_key 0 p.columns part) rows o)
        ∙ ap (λ l. at_times test (p.rows part l)) (filter-swap (λ (row : Stamped). keeps row.time) (has_key 0 p.columns part) rows)

    none : (part : List Value) → any_has p.columns kept part ≡ false → at_times test (given p kept part) ≡ []
    none part e = ap (λ l. at_times test (p.rows part l)) (none_has p.columns kept part e) ∙ ap (at_times test) (nothing part)

pub parted-in_order : (p : Parting) (rows : List Stamped) → AreInOrder (parted p rows)
parted-in_order p rows = IsInOrder-in_order time_of (flat_map (given p rows) (parts p rows))

-- the laws of an operator whose parts are sound
pub parted-laws : {Spec : Type 0} (fits : Spec → Bool) (parting : Spec → Parting) (reach : Spec → Option ℕ)
    → ((spec : Spec) → fits spec ≡ true → AreSound (parting spec) (reach spec))
    → StreamLaws (λ spec. fits spec ≡ true) (λ spec left right. parted (parting spec) left) reach
parted-laws fits parting reach sound = record {
  past_only = λ spec left right x f a b. parted-left_out (parting spec) (λ t. nat_lt t x) (λ t. nat_lt t x) (sound spec f).nothing ((sound spec f).past x) left a;
  in_order = λ spec left right f a b. parted-in_order (parting spec) left;
  within_reach = λ spec f. within (parting spec) (reach spec) (sound spec f).nothing (sound spec f).within;
}
  where
    within : (p : Parting) (n : Option ℕ) → ((part : List Value) → p.rows part [] ≡ []) → DependsWithin n p → IsWithinReach n (λ left right. parted p left)
    within p None nothing h = tt
    within p (Some n) nothing h = λ left right x a b. parted-left_out p (nat_le x) (nat_le (x - n)) nothing (h x) left a
