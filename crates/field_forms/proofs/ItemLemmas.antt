-- Items that are read one after the other.
use Rattle.std.proofs.Common.{◌≡◌, ℕ, suc, ◌<◌, false, nat_le, arith, length, List, [], ◌∷◌, ◌++◌, Some, None, refl, sym, ap, ◌∙◌}
use Rattle.std.proofs.lemmas.Bool.Decides.{nat_tests}
use Rattle.std.proofs.lemmas.List.{append_assoc}
use Rattle.field_forms.specs.Forms.{Form, IsForm, NeedsBytes, Reading, counted_reading, image_reading, item_reading, items_reading, list_form}
use Rattle.field_forms.specs.FormLaws.{some-reading}
use Rattle.field_forms.specs.ListLaws.{items_reading-few}
use Rattle.field_forms.specs.Numbers.{u32_form}

module _ {V : Type 0} (reading : List ℕ → Reading V) where
  abbrev pub after : List V → Reading (List V) → Reading (List V)
  after items r = image_reading (λ vs. items ++ vs) r

  after-none : (r : Reading (List V)) → r ≡ after [] r
  after-none None = refl
  after-none (Some (vs, rest)) = refl

  pub items-begin : (n m : ℕ) (bytes : List ℕ) → n ≡ m → items_reading reading n bytes ≡ after [] (items_reading reading m bytes)
  items-begin n m bytes e = ap (λ k. items_reading reading k bytes) e ∙ after-none (items_reading reading m bytes)

  after-more : (items : List V) (v : V) (r : Reading (List V)) → after items (image_reading (λ vs. v ∷ vs) r) ≡ after (items ++ v ∷ []) r
  after-more items v None = refl
  after-more items v (Some (vs, rest)) = some-reading _ _ rest rest (sym (append_assoc items (v ∷ []) vs)) refl

  pub items-more : (whole : Reading (List V)) (items : List V) (n m : ℕ) (bytes : List ℕ) (v : V) (rest : List ℕ)
      → whole ≡ after items (items_reading reading n bytes) → n ≡ suc m → reading bytes ≡ Some (v, rest)
      → whole ≡ after (items ++ v ∷ []) (items_reading reading m rest)
  items-more whole items n m bytes v rest h e q =
      h ∙ ap (λ k. after items (items_reading reading k bytes)) e
      ∙ ap (λ r. after items (item_reading r (items_reading reading m))) q
      ∙ after-more items v (items_reading reading m rest)

le-false : (m n : ℕ) → nat_le m n ≡ false → n < m
le-false m n h = grind (arith, nat_tests)

-- a list is not read where there are fewer bytes than items
pub list-few : {V : Type 0} {f : Form V} → IsForm f → NeedsBytes f → (bytes rest : List ℕ) (n : ℕ) → u32_form.reading bytes ≡ Some (n, rest)
    → nat_le n (length rest) ≡ false → (list_form u32_form f).reading bytes ≡ None
list-few {f = f} F needs bytes rest n e h =
    ap (counted_reading f.reading) e ∙ items_reading-few F needs n rest (le-false n (length rest) h)
