-- The least and the greatest value so far are the first and the last of the different ones.
use Rattle.std.proofs.Common.{◌≡◌, Bool, true, cond, List, [], ◌∷◌, refl, sym, ap, ◌∙◌}
use Rattle.std.specs.BTreeSet.{insert_key}
use Rattle.std.specs.List.{fold}
use Rattle.std.specs.List.{AllByRecursion as Each}
use Rattle.std.specs.Ordering.{is_gt, is_lt, match_ordering}
use Rattle.std.specs.declared.cmp.Ordering.{Ordering}
use Rattle.std.specs.declared.cmp.Ordering.TheVariants.{Less, Equal, Greater}
use Rattle.event_value.proofs.OrderLemmas.{value_order-total}
use Rattle.event_value.specs.Order.{value_order}
use Rattle.event_value.specs.declared.value.Value.{Value}
use Rattle.event_value.specs.declared.value.Value.TheVariants.{Null, Bit, Big, Fixed, Text, Moment}
use Rattle.row_groups.specs.Aggregates.{different, is_value, last_value}
use Rattle.row_groups.specs.Distinct.{Rises, with_each}
use Rattle.row_groups.specs.Keys.{value_at}
use Rattle.row_groups.specs.Tallies.{greater, is_greater, is_lesser, lesser}
use Rattle.row_groups.proofs.DistinctLemmas.{Each-insert_key, Rises-insert_key}

abbrev pub AreValues : List Value → Type 0
AreValues values = Each (λ value. is_value value ≡ true) values

is_lesser-value : (value best : Value) → is_value best ≡ true → is_lesser value best ≡ is_lt (value_order value best)
is_lesser-value value Null h = cc
is_lesser-value value (Bit b) h = refl
is_lesser-value value (Big n) h = refl
is_lesser-value value (Fixed m) h = refl
is_lesser-value value (Text t) h = refl
is_lesser-value value (Moment m) h = refl

is_greater-value : (value best : Value) → is_value best ≡ true → is_greater value best ≡ is_gt (value_order value best)
is_greater-value value Null h = cc
is_greater-value value (Bit b) h = refl
is_greater-value value (Big n) h = refl
is_greater-value value (Fixed m) h = refl
is_greater-value value (Text t) h = refl
is_greater-value value (Moment m) h = refl

first-insert_key : (places : List Value) (value : Value) → AreValues places
    → lesser (value_at 0 places) value ≡ value_at 0 (insert_key value_order places value)
first-insert_key [] value h = refl
first-insert_key (b ∷ bs) value h =
    ap (λ (t : Bool). cond t value b) (is_lesser-value value b h.0)
    ∙ elim (value_order value b) as (λ o. cond (is_lt o) value b ≡ value_at 0 (match_ordering o (value ∷ b ∷ bs) (b ∷ bs) (b ∷ insert_key value_order bs value))) [
      | Less ↦ refl
      | Equal ↦ refl
      | Greater ↦ refl
    ]

fold-first_value : (places values : List Value) → AreValues places → AreValues values
    → fold lesser (value_at 0 places) values ≡ value_at 0 (with_each value_order places values)
fold-first_value places [] h k = refl
fold-first_value places (value ∷ values) h k =
    ap (λ (best : Value). fold lesser best values) (first-insert_key places value h)
    ∙ fold-first_value (insert_key value_order places value) values (Each-insert_key value_order _ value places k.0 h) k.1

pub fold-lesser : (values : List Value) → AreValues values → fold lesser Null values ≡ value_at 0 (different values)
fold-lesser values k = fold-first_value [] values tt k

-- the last is above all before it
last-above : (b c : Value) (ds : List Value) → Each (λ d. value_order b d ≡ Less) (c ∷ ds) → value_order b (last_value (c ∷ ds)) ≡ Less
last-above b c [] h = h.0
last-above b c (d ∷ ds) h = last-above b d ds h.1

last-is_value : (c : Value) (ds : List Value) → AreValues (c ∷ ds) → is_value (last_value (c ∷ ds)) ≡ true
last-is_value c [] h = h.0
last-is_value c (d ∷ ds) h = last-is_value d ds h.1

last-behind : (b c : Value) (ds : List Value) (value : Value)
    → last_value (b ∷ insert_key value_order (c ∷ ds) value) ≡ last_value (insert_key value_order (c ∷ ds) value)
last-behind b c ds value =
    elim (value_order value c) as (λ o. last_value (b ∷ match_ordering o (value ∷ c ∷ ds) (c ∷ ds) (c ∷ insert_key value_order ds value)) ≡ last_value (match_ordering o (value ∷ c ∷ ds) (c ∷ ds) (c ∷ insert_key value_order ds value))) [
      | Less ↦ refl
      | Equal ↦ refl
      | Greater ↦ refl
    ]

not_greater : (value best : Value) → is_value best ≡ true → value_order value best ≡ Less → greater best value ≡ best
not_greater value best h e =
    ap (λ (t : Bool). cond t value best) (is_greater-value value best h)
    ∙ ap (λ (o : Ordering). cond (is_gt o) value best) e

last-insert_key : (places : List Value) (value : Value) → Rises value_order places → AreValues places
    → greater (last_value places) value ≡ last_value (insert_key value_order places value)
last-insert_key [] value r h = refl
last-insert_key (b ∷ []) value r h =
    ap (λ (t : Bool). cond t value b) (is_greater-value value b h.0)
    ∙ elim (value_order value b) as (λ o. cond (is_gt o) value b ≡ last_value (match_ordering o (value ∷ b ∷ []) (b ∷ []) (b ∷ value ∷ []))) [
      | Less ↦ refl
      | Equal ↦ refl
      | Greater ↦ refl
    ]
last-insert_key (b ∷ c ∷ ds) value r h =
    elim (value_order value b) as (λ o. value_order value b ≡ o → greater (last_value (c ∷ ds)) value ≡ last_value (match_ordering o (value ∷ b ∷ c ∷ ds) (b ∷ c ∷ ds) (b ∷ insert_key value_order (c ∷ ds) value))) [
      | Less ↦ λ e. not_greater value (last_value (c ∷ ds)) (last-is_value c ds h.1) (value_order-total.trans value b (last_value (c ∷ ds)) e (last-above b c ds r.0))
      | Equal ↦ λ e. not_greater value (last_value (c ∷ ds)) (last-is_value c ds h.1) (value_order-total.congr value b (last_value (c ∷ ds)) e ∙ last-above b c ds r.0)
      | Greater ↦ λ e. last-insert_key (c ∷ ds) value r.1 h.1 ∙ sym (last-behind b c ds value)
    ] refl

fold-last_value : (places values : List Value) → Rises value_order places → AreValues places → AreValues values
    → fold greater (last_value places) values ≡ last_value (with_each value_order places values)
fold-last_value places [] r h k = refl
fold-last_value places (value ∷ values) r h k =
    ap (λ (best : Value). fold greater best values) (last-insert_key places value r h)
    ∙ fold-last_value (insert_key value_order places value) values (Rises-insert_key value_order value_order-total value places r) (Each-insert_key value_order _ value places k.0 h) k.1

pub fold-greater : (values : List Value) → AreValues values → fold greater Null values ≡ last_value (different values)
fold-greater values k = fold-last_value [] values tt tt k
