-- Places of what is left of bytes.
use Rattle.std.proofs.Common.{◌≡◌, ℕ, ◌-◌, List, ◌++◌, length, take, drop, Option, Some, None, subst, sym, ap, ◌∙◌, arith}
use Rattle.std.proofs.Math.Seq.{drop-append_seam}
use Rattle.std.proofs.lemmas.List.{append_assoc, length-append, take-append-drop}
use Rattle.field_forms.specs.Forms.{Form, IsForm, Reading}
use Rattle.field_forms.specs.Readings.{IsTaken}
use Rattle.field_forms.specs.Spellings.{IsSpelledAt}

drop-rest : (bytes spelling rest : List ℕ) (at : ℕ) → drop at bytes ≡ spelling ++ rest → drop (length bytes - length rest) bytes ≡ rest
drop-rest bytes spelling rest at e =
    let whole : bytes ≡ (take at bytes ++ spelling) ++ rest = sym (take-append-drop at bytes) ∙ ap (λ l. take at bytes ++ l) e ∙ sym (append_assoc (take at bytes) spelling rest) in
    let place : length bytes - length rest ≡ length (take at bytes ++ spelling) = omega (arith, ap length whole, length-append (take at bytes ++ spelling) rest) in
    ap (λ n. drop n bytes) place ∙ ap (drop (length (take at bytes ++ spelling))) whole ∙ drop-append_seam (take at bytes ++ spelling) rest

module _ {V : Type 0} {f : Form V} (F : IsForm f) where
  spelled-at : (bytes rest : List ℕ) (at : ℕ) (v : V) (n : ℕ)
      → f.reading (drop at bytes) ≡ Some (v, rest) → n ≡ length bytes - length rest → IsSpelledAt f bytes at (Some (v, n))
  spelled-at bytes rest at v n e h =
      let o = F.only (drop at bytes) v rest e in
      let behind : drop n bytes ≡ rest = ap (λ m. drop m bytes) h ∙ drop-rest bytes (f.spelling v) rest at o.1 in
      (omega arith, o.0, o.1 ∙ ap (λ l. f.spelling v ++ l) (sym behind))

  pub taken-at : (bytes rest : List ℕ) (at : ℕ) (taken : Option V) (v : V) (n : ℕ)
      → taken ≡ Some v → IsTaken (f.reading (drop at bytes)) taken rest → n ≡ length bytes - length rest → IsSpelledAt f bytes at (Some (v, n))
  taken-at bytes rest at taken v n e read h =
      spelled-at bytes rest at v n (subst (λ o. IsTaken (f.reading (drop at bytes)) o rest) e read) h

  pub none-at : (bytes : List ℕ) (at : ℕ) → f.reading (drop at bytes) ≡ None → IsSpelledAt f bytes at None
  none-at bytes at e = λ v behind h q. none (f.reading (drop at bytes)) v behind e (ap f.reading q ∙ F.read_back v behind h)
    where
      none : (r : Reading V) (v : V) (behind : List ℕ) → r ≡ None → r ≡ Some (v, behind) → ⊥
      none r v behind p q = cc
