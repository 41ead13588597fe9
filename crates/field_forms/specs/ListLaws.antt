-- Lists have forms, and no list is longer than its bytes.
use Rattle.std.specs.Prelude.{◌≡◌, ℕ, zero, suc, ◌≤◌, ◌<◌, true, List, [], ◌∷◌, ◌++◌, length, Some, None, refl}
use Rattle.std.specs.List.{flat_map, list_all}
use Rattle.std.proofs.Common.{sym, ap, ◌∙◌, arith}
use Rattle.std.proofs.lemmas.List.{append_assoc, length-append}
use Rattle.field_forms.specs.Forms.{Form, IsForm, NeedsBytes, Reading, counted_reading, image_reading, item_reading, items_reading, list_form}
use Rattle.field_forms.specs.FormLaws.{and-both, and-first, and-second, image_reading-inv, same-rest, same-value}

module _ {V : Type 0} {f : Form V} (F : IsForm f) where
  pub items-again : (vs : List V) (rest : List ℕ) → list_all f.fits vs ≡ true → items_reading f.reading (length vs) (flat_map f.spelling vs ++ rest) ≡ Some (vs, rest)
  items-again [] rest h = refl
  items-again (v ∷ vs) rest h =
      ap (λ bytes. item_reading (f.reading bytes) (items_reading f.reading (length vs))) (append_assoc (f.spelling v) (flat_map f.spelling vs) rest)
      ∙ ap (λ r. item_reading r (items_reading f.reading (length vs))) (F.read_back v (flat_map f.spelling vs ++ rest) (and-first (f.fits v) (list_all f.fits vs) h))
      ∙ ap (image_reading (λ ws. v ∷ ws)) (items-again vs rest (and-second (f.fits v) (list_all f.fits vs) h))

  then_items-inv : (r : Reading V) (next : List ℕ → Reading (List V)) (vs : List V) (rest : List ℕ) → item_reading r next ≡ Some (vs, rest)
      → (v : V) × (ws : List V) × (mid : List ℕ) × (r ≡ Some (v, mid)) × (next mid ≡ Some (ws, rest)) × (vs ≡ v ∷ ws)
  then_items-inv None next vs rest e = cc
  then_items-inv (Some (v, mid)) next vs rest e =
      let w = image_reading-inv (λ ws. v ∷ ws) (next mid) vs rest e in
      (v, w.0, mid, refl, w.1, sym w.2)

  -- so many items, that fit, and whose bytes are those in front
  pub items-only : (n : ℕ) (bytes : List ℕ) (vs : List V) (rest : List ℕ) → items_reading f.reading n bytes ≡ Some (vs, rest)
      → (length vs ≡ n) × (list_all f.fits vs ≡ true) × (bytes ≡ flat_map f.spelling vs ++ rest)
  items-only zero bytes vs rest e =
      let same = same-value [] vs bytes rest e in
      (ap length (sym same), ap (list_all f.fits) (sym same), same-rest [] vs bytes rest e ∙ ap (λ l. flat_map f.spelling l ++ rest) same)
  items-only (suc n) bytes vs rest e =
      let w = then_items-inv (f.reading bytes) (items_reading f.reading n) vs rest e in
      let o = F.only bytes w.0 w.2 w.3 in
      let r = items-only n w.2 w.1 rest w.4 in (
        ap length w.5 ∙ ap suc r.0,
        ap (list_all f.fits) w.5 ∙ and-both (f.fits w.0) (list_all f.fits w.1) o.0 r.1,
        o.1 ∙ ap (λ l. f.spelling w.0 ++ l) r.2 ∙ sym (append_assoc (f.spelling w.0) (flat_map f.spelling w.1) rest) ∙ ap (λ l. flat_map f.spelling l ++ rest) (sym w.5),
      )

counted_reading-inv : {V : Type 0} (reading : List ℕ → Reading V) (r : Reading ℕ) (vs : List V) (rest : List ℕ) → counted_reading reading r ≡ Some (vs, rest)
    → (n : ℕ) × (mid : List ℕ) × (r ≡ Some (n, mid)) × (items_reading reading n mid ≡ Some (vs, rest))
counted_reading-inv reading None vs rest e = cc
counted_reading-inv reading (Some (n, mid)) vs rest e = (n, mid, refl, e)

pub IsForm-list_form : {V : Type 0} {number : Form ℕ} {f : Form V} → IsForm number → IsForm f → IsForm (list_form number f)
IsForm-list_form {number = number} {f = f} N F = record {
  read_back = λ vs rest h.
      ap (λ bytes. counted_reading f.reading (number.reading bytes)) (append_assoc (number.spelling (length vs)) (flat_map f.spelling vs) rest)
      ∙ ap (counted_reading f.reading) (N.read_back (length vs) (flat_map f.spelling vs ++ rest) (and-first (number.fits (length vs)) (list_all f.fits vs) h))
      ∙ items-again F vs rest (and-second (number.fits (length vs)) (list_all f.fits vs) h);
  only = λ bytes vs rest e.
      let w = counted_reading-inv f.reading (number.reading bytes) vs rest e in
      let o = N.only bytes w.0 w.1 w.2 in
      let r = items-only F w.0 w.1 vs rest w.3 in (
        and-both (number.fits (length vs)) (list_all f.fits vs) (ap number.fits r.0 ∙ o.0) r.1,
        o.1 ∙ ap (λ l. number.spelling w.0 ++ l) r.2 ∙ sym (append_assoc (number.spelling w.0) (flat_map f.spelling vs) rest)
            ∙ ap (λ n. (number.spelling n ++ flat_map f.spelling vs) ++ rest) (sym r.0),
      );
}

module _ {V : Type 0} {f : Form V} (F : IsForm f) (needs : NeedsBytes f) where
  spelling-some : (v : V) → f.fits v ≡ true → 1 ≤ length (f.spelling v)
  spelling-some v h = by (f.spelling v) (F.read_back v [] h)
    where
      none : (r : Reading V) → r ≡ None → r ≡ Some (v, []) → ⊥
      none r p q = cc

      by : (l : List ℕ) → f.reading (l ++ []) ≡ Some (v, []) → 1 ≤ length l
      by [] e = absurd (none (f.reading []) needs e)
      by (b ∷ l) e = omega arith

  length-items : (vs : List V) → list_all f.fits vs ≡ true → length vs ≤ length (flat_map f.spelling vs)
  length-items [] h = omega arith
  length-items (v ∷ vs) h =
      let first = spelling-some v (and-first (f.fits v) (list_all f.fits vs) h) in
      let others = length-items vs (and-second (f.fits v) (list_all f.fits vs) h) in
      omega (arith, length-append (f.spelling v) (flat_map f.spelling vs))

  -- no items are read where there are fewer bytes
  pub items_reading-few : (n : ℕ) (bytes : List ℕ) → length bytes < n → items_reading f.reading n bytes ≡ None
  items_reading-few n bytes few = by (items_reading f.reading n bytes) refl
    where
      by : (r : Reading (List V)) → items_reading f.reading n bytes ≡ r → r ≡ None
      by None e = refl
      by (Some (vs, rest)) e =
          let o = items-only F n bytes vs rest e in
          let enough = length-items vs o.1 in
          absurd (omega (arith, ap length o.2, length-append (flat_map f.spelling vs) rest, o.0))
