-- Keys of substreams, and their marks as a map keeps them.
use Rattle.std.proofs.Common.{◌≡◌, ℕ, Bool, true, false, cond, List, [], ◌∷◌, map, Some, None, refl, ap, sym, ◌∙◌}
use Rattle.std.specs.BTreeMap.{insert_entry}
use Rattle.std.specs.Cmp.{both_ways}
use Rattle.std.specs.Cmp.Lexicographic.{slice_cmp, lists_total}
use Rattle.std.specs.FinMap.{slice_cmp-IsAntisymmetric}
use Rattle.std.specs.Map.{lookup, set_value}
use Rattle.std.specs.Ordering.{is_eq, match_ordering, ordering_reverse}
use Rattle.std.specs.declared.cmp.Ordering.{Ordering}
use Rattle.std.specs.declared.cmp.Ordering.TheVariants.{Less, Equal, Greater}
use Rattle.event_value.proofs.OrderLemmas.{value_order-exact, value_order-total}
use Rattle.event_value.specs.Order.{value_order}
use Rattle.event_value.specs.declared.value.Value.{Value}
use Rattle.time_policy.specs.SubstreamMarks.{Marks, mark_in}
use Rattle.time_policy.specs.Substreams.{is_same_substream}

-- the order of keys
abbrev pub key_order : List Value → List Value → Ordering
key_order = slice_cmp value_order

key_order-self : (key : List Value) → key_order key key ≡ Equal
key_order-self key = by_order (key_order key key) refl
  where
    by_order : (o : Ordering) → key_order key key ≡ o → key_order key key ≡ Equal
    by_order Less e =
        let q : ◌≡◌ {A = Ordering} Less Greater = sym e ∙ (lists_total value_order-total).antisymm key key ∙ ap ordering_reverse e in cc
    by_order Equal e = e
    by_order Greater e =
        let q : ◌≡◌ {A = Ordering} Greater Less = sym e ∙ (lists_total value_order-total).antisymm key key ∙ ap ordering_reverse e in cc

is_eq-true : (o : Ordering) → is_eq o ≡ true → o ≡ Equal
is_eq-true Less e = cc
is_eq-true Equal e = refl
is_eq-true Greater e = cc

-- keys of one substream are equal
pub is_same_substream-exact : (a b : List Value) → is_same_substream a b ≡ true → a ≡ b
is_same_substream-exact a b h = slice_cmp-IsAntisymmetric value_order-exact a b (is_eq-true (key_order a b) h)

pub is_same_substream-self : (a : List Value) → is_same_substream a a ≡ true
is_same_substream-self a = ap is_eq (key_order-self a)

pub is_same_substream-equal : (a b : List Value) → a ≡ b → is_same_substream b a ≡ true
is_same_substream-equal a b e = ap (λ key. is_same_substream key a) (sym e) ∙ is_same_substream-self a

pub is_same_substream-swap : (a b : List Value) → is_same_substream a b ≡ is_same_substream b a
is_same_substream-swap a b = both_ways (is_same_substream a b) (is_same_substream b a)
    (λ h. is_same_substream-equal a b (is_same_substream-exact a b h))
    (λ h. is_same_substream-equal b a (is_same_substream-exact b a h))

cond-again : {A : Type 0} (d : Bool) (x y z : A) → cond d x z ≡ cond d x (cond d y z)
cond-again true x y z = refl
cond-again false x y z = refl

pub cond-swap : {A : Type 0} (b c : Bool) (x y z : A) → (b ≡ true → c ≡ true → ⊥)
    → cond b x (cond c y z) ≡ cond c y (cond b x z)
cond-swap true true x y z h = absurd (h refl refl)
cond-swap true false x y z h = refl
cond-swap false c x y z h = refl

-- entries whose keys are seen as lists of values
module _ {K : Type 0} (values : K → List Value) where
  abbrev pub with_key : (K × ℕ) → (List Value × ℕ)
  with_key e = (values e.0, e.1)

  abbrev pub view : List (K × ℕ) → Marks
  view es = map with_key es

  abbrev pub order : K → K → Ordering
  order a b = key_order (values a) (values b)

  pub lookup-view : (p : List Value → Bool) (es : List (K × ℕ)) → lookup p (view es) ≡ lookup (λ k. p (values k)) es
  lookup-view p [] = refl
  lookup-view p (e ∷ es) = ap (cond (p (values e.0)) (Some e.1)) (lookup-view p es)

  -- where an entry has the key that is set
  mark_in-here : (key other : List Value) (e : K × ℕ) (m : ℕ) (es : List (K × ℕ)) → key ≡ values e.0
      → cond (is_same_substream other (values e.0)) (Some m) (mark_in (view es) other)
      ≡ cond (is_same_substream key other) (Some m) (mark_in (view (e ∷ es)) other)
  mark_in-here key other e m es same =
      cond-again (is_same_substream other (values e.0)) (Some m) (Some e.1) (mark_in (view es) other)
      ∙ ap (λ b. cond b (Some m) (mark_in (view (e ∷ es)) other))
      (is_same_substream-swap other (values e.0) ∙ ap (λ k. is_same_substream k other) (sym same))

  -- where it has another
  mark_in-there : (key other : List Value) (e : K × ℕ) (m : ℕ) (es after : List (K × ℕ))
      → (key ≡ values e.0 → ⊥)
      → mark_in (view after) other ≡ cond (is_same_substream key other) (Some m) (mark_in (view es) other)
      → mark_in (view (e ∷ after)) other ≡ cond (is_same_substream key other) (Some m) (mark_in (view (e ∷ es)) other)
  mark_in-there key other e m es after apart rest =
      ap (cond (is_same_substream other (values e.0)) (Some e.1)) rest
      ∙ cond-swap (is_same_substream other (values e.0)) (is_same_substream key other) (Some e.1) (Some m) (mark_in (view es) other)
      (λ a b. apart (is_same_substream-exact key other b ∙ is_same_substream-exact other (values e.0) a))

  -- the marks after an entry is put in
  pub mark_in-insert_entry : (es : List (K × ℕ)) (k : K) (m : ℕ) (other : List Value)
      → mark_in (view (insert_entry order es k m)) other
      ≡ cond (is_same_substream (values k) other) (Some m) (mark_in (view es) other)
  mark_in-insert_entry [] k m other = ap (λ b. cond b (Some m) None) (is_same_substream-swap other (values k))
  mark_in-insert_entry (e ∷ es) k m other = by_order (order k e.0) refl (mark_in-insert_entry es k m other)
    where
      by_order : (o : Ordering) → order k e.0 ≡ o
          → mark_in (view (insert_entry order es k m)) other ≡ cond (is_same_substream (values k) other) (Some m) (mark_in (view es) other)
          → mark_in (view (match_ordering (order k e.0) ((k, m) ∷ e ∷ es) ((e.0, m) ∷ es) (e ∷ insert_entry order es k m))) other
          ≡ cond (is_same_substream (values k) other) (Some m) (mark_in (view (e ∷ es)) other)
      by_order Less h rest =
          ap (λ o. mark_in (view (match_ordering o ((k, m) ∷ e ∷ es) ((e.0, m) ∷ es) (e ∷ insert_entry order es k m))) other) h
          ∙ ap (λ b. cond b (Some m) (mark_in (view (e ∷ es)) other)) (is_same_substream-swap other (values k))
      by_order Equal h rest =
          ap (λ o. mark_in (view (match_ordering o ((k, m) ∷ e ∷ es) ((e.0, m) ∷ es) (e ∷ insert_entry order es k m))) other) h
          ∙ mark_in-here (values k) other e m es (slice_cmp-IsAntisymmetric value_order-exact (values k) (values e.0) h)
      by_order Greater h rest =
          ap (λ o. mark_in (view (match_ordering o ((k, m) ∷ e ∷ es) ((e.0, m) ∷ es) (e ∷ insert_entry order es k m))) other) h
          ∙ mark_in-there (values k) other e m es (insert_entry order es k m)
          (λ same.
          let q : ◌≡◌ {A = Ordering} Greater Equal = sym h ∙ ap (λ key. key_order key (values e.0)) same ∙ key_order-self (values e.0) in cc)
          rest

  -- the marks after the value of an entry is set
  pub mark_in-set_value : (es : List (K × ℕ)) (key : List Value) (old m : ℕ) (other : List Value)
      → Some old ≡ lookup (λ k. is_same_substream key (values k)) es
      → mark_in (view (set_value (λ k. is_same_substream key (values k)) es m)) other
      ≡ cond (is_same_substream key other) (Some m) (mark_in (view es) other)
  mark_in-set_value [] key old m other h = cc
  mark_in-set_value (e ∷ es) key old m other h =
      by_test (is_same_substream key (values e.0)) refl (λ g. mark_in-set_value es key old m other g)
    where
      by_test : (b : Bool) → is_same_substream key (values e.0) ≡ b
          → (Some old ≡ lookup (λ k. is_same_substream key (values k)) es
          → mark_in (view (set_value (λ k. is_same_substream key (values k)) es m)) other
          ≡ cond (is_same_substream key other) (Some m) (mark_in (view es) other))
          → mark_in (view (cond (is_same_substream key (values e.0)) ((e.0, m) ∷ es) (e ∷ set_value (λ k. is_same_substream key (values k)) es m))) other
          ≡ cond (is_same_substream key other) (Some m) (mark_in (view (e ∷ es)) other)
      by_test true t rest =
          ap (λ b. mark_in (view (cond b ((e.0, m) ∷ es) (e ∷ set_value (λ k. is_same_substream key (values k)) es m))) other) t
          ∙ mark_in-here key other e m es (is_same_substream-exact key (values e.0) t)
      by_test false t rest =
          ap (λ b. mark_in (view (cond b ((e.0, m) ∷ es) (e ∷ set_value (λ k. is_same_substream key (values k)) es m))) other) t
          ∙ mark_in-there key other e m es (set_value (λ k. is_same_substream key (values k)) es m)
          (λ same. let q : ◌≡◌ {A = Bool} false true = sym t ∙ is_same_substream-equal (values e.0) key (sym same) in cc)
          (rest (h ∙ ap (λ b. cond b (Some e.1) (lookup (λ k. is_same_substream key (values k)) es)) t))
