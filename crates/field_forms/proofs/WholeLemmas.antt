-- Bytes as a whole, and that they spell one value.
use Rattle.std.proofs.Common.{◌≡◌, ℕ, Bool, true, false, List, [], ◌∷◌, ◌++◌, Some, None, refl, sym, ap, ◌∙◌}
use Rattle.std.proofs.lemmas.List.{append-nil}
use Rattle.field_forms.specs.Forms.{Form, IsForm, Reading}
use Rattle.field_forms.specs.FormLaws.{same-rest, same-value}
use Rattle.field_forms.specs.Spellings.{IsWhole, SpellsOnce, is_nil}

pub nil-true : (l : List ℕ) → is_nil l ≡ true → l ≡ []
nil-true [] h = refl
nil-true (b ∷ l) h = cc

pub nil-false : (l : List ℕ) → is_nil l ≡ false → l ≡ [] → ⊥
nil-false l h e = no (is_nil l) h (ap is_nil e)
  where
    no : (b : Bool) → b ≡ false → b ≡ true → ⊥
    no b p q = cc

module _ {V : Type 0} {f : Form V} (F : IsForm f) where
  pub whole-some : (bytes rest : List ℕ) (v : V) → f.reading bytes ≡ Some (v, rest) → rest ≡ [] → IsWhole f bytes (Some v)
  whole-some bytes rest v e q =
      let o = F.only bytes v rest e in
      (o.0, o.1 ∙ ap (λ l. f.spelling v ++ l) q ∙ append-nil (f.spelling v))

  read-whole : (bytes : List ℕ) (v : V) → f.fits v ≡ true → bytes ≡ f.spelling v → f.reading bytes ≡ Some (v, [])
  read-whole bytes v h e = ap f.reading (e ∙ sym (append-nil (f.spelling v))) ∙ F.read_back v [] h

  pub whole-none : (bytes : List ℕ) → f.reading bytes ≡ None → IsWhole f bytes None
  whole-none bytes e = λ v s. none (f.reading bytes) v e (read-whole bytes v s.0 s.1)
    where
      none : (r : Reading V) (v : V) → r ≡ None → r ≡ Some (v, []) → ⊥
      none r v p q = cc

  pub whole-more : (bytes rest : List ℕ) (v : V) → f.reading bytes ≡ Some (v, rest) → (rest ≡ [] → ⊥) → IsWhole f bytes None
  whole-more bytes rest v e n = λ w s. n (same-rest v w rest [] (sym e ∙ read-whole bytes w s.0 s.1))

  no-front : (v w : V) (behind_v behind_w : List ℕ) → f.fits v ≡ true → f.fits w ≡ true
      → f.spelling v ++ behind_v ≡ f.spelling w ++ behind_w → (v ≡ w) × (behind_v ≡ behind_w)
  no-front v w behind_v behind_w h k e =
      let same = sym (F.read_back v behind_v h) ∙ ap f.reading e ∙ F.read_back w behind_w k in
      (same-value v w behind_v behind_w same, same-rest v w behind_v behind_w same)

  pub spells-once : SpellsOnce f
  spells-once = record {
    one_value = λ bytes v w s t. (no-front v w [] [] s.0 t.0 (ap (λ l. l ++ []) (sym s.1 ∙ t.1))).0;
    one_spelling = λ v bytes others s t. s.1 ∙ sym t.1;
    no_front = no-front;
  }
