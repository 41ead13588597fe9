-- Bits, texts and options have forms.
use Rattle.std.specs.Prelude.{◌≡◌, ℕ, ◌≤◌, Bool, true, false, cond, nat_le, List, ◌++◌, length, take, drop, Option, Some, None, refl}
use Rattle.std.proofs.Common.{sym, ap, ◌∙◌, arith}
use Rattle.std.proofs.lemmas.Bool.Decides.{nat_tests}
use Rattle.std.proofs.Math.Seq.{drop-append_seam, take-append_seam}
use Rattle.std.proofs.lemmas.List.{append_assoc, length-append, length-take-le, take-append-drop}
use Rattle.field_forms.specs.Forms.{Form, IsForm, Reading}
use Rattle.field_forms.specs.FormLaws.{AreBodies-alternative, AreBodies-no_alternative, IsForm-constant_form, IsForm-tagged_form, IsForm-variant_form, same-rest, same-value, some-reading, variant-tag}
use Rattle.field_forms.specs.Fields.{bit_form, bit_number, is_no, is_none, is_yes, itself, option_form, option_number, part_reading, text_form}
use Rattle.field_forms.specs.NumberLaws.{IsForm-u32_form}
use Rattle.field_forms.specs.Numbers.{u32_form}

le-true : (m n : ℕ) → nat_le m n ≡ true → m ≤ n
le-true m n h = grind (arith, nat_tests)

true-le : (m n : ℕ) → m ≤ n → nat_le m n ≡ true
true-le m n h = grind (arith, nat_tests)

pub IsForm-bit_form : IsForm bit_form
IsForm-bit_form =
    IsForm-tagged_form bit_number _
    (AreBodies-alternative bit_number 0 (IsForm-constant_form false is_no refl no-is) no-tag
    (AreBodies-alternative bit_number 1 (IsForm-constant_form true is_yes refl yes-is) yes-tag (AreBodies-no_alternative bit_number)))
  where
    no-is : (b : Bool) → is_no b ≡ true → false ≡ b
    no-is false h = refl
    no-is true h = cc

    yes-is : (b : Bool) → is_yes b ≡ true → true ≡ b
    yes-is b h = sym h

    no-tag : (b : Bool) → is_no b ≡ true → bit_number b ≡ 0
    no-tag false h = refl
    no-tag true h = cc

    yes-tag : (b : Bool) → is_yes b ≡ true → bit_number b ≡ 1
    yes-tag true h = refl
    yes-tag false h = cc

part_reading-inv : (r : Reading ℕ) (t rest : List ℕ) → part_reading r ≡ Some (t, rest)
    → (n : ℕ) × (mid : List ℕ) × (r ≡ Some (n, mid)) × (length t ≡ n) × (mid ≡ t ++ rest)
part_reading-inv None t rest e = cc
part_reading-inv (Some (n, mid)) t rest e =
    elim (nat_le n (length mid)) as (λ b. nat_le n (length mid) ≡ b → ◌≡◌ {A = Reading (List ℕ)} (cond b (Some (take n mid, drop n mid)) None) (Some (t, rest))
    → (k : ℕ) × (m : List ℕ) × (◌≡◌ {A = Reading ℕ} (Some (n, mid)) (Some (k, m))) × (length t ≡ k) × (m ≡ t ++ rest)) [
      | true ↦ λ h q.
          let same = same-value (take n mid) t (drop n mid) rest q in
          let behind = same-rest (take n mid) t (drop n mid) rest q in (
            n,
            mid,
            refl,
            ap length (sym same) ∙ length-take-le n mid (le-true n (length mid) h),
            sym (take-append-drop n mid) ∙ ap (λ l. l ++ drop n mid) same ∙ ap (λ l. t ++ l) behind,
          )
      | false ↦ λ h q. cc
    ] refl e

pub IsForm-text_form : IsForm text_form
IsForm-text_form = record {
  read_back = λ t rest h.
      ap (λ bytes. part_reading (u32_form.reading bytes)) (append_assoc (u32_form.spelling (length t)) t rest)
      ∙ ap part_reading (IsForm-u32_form.read_back (length t) (t ++ rest) h)
      ∙ ap (λ b. cond {A = Reading (List ℕ)} b (Some (take (length t) (t ++ rest), drop (length t) (t ++ rest))) None) (true-le (length t) (length (t ++ rest)) (omega (arith, length-append t rest)))
      ∙ some-reading _ t _ rest (take-append_seam t rest) (drop-append_seam t rest);
  only = λ bytes t rest e.
      let w = part_reading-inv (u32_form.reading bytes) t rest e in
      let o = IsForm-u32_form.only bytes w.0 w.1 w.2 in (
        ap u32_form.fits w.3 ∙ o.0,
        o.1 ∙ ap (λ l. u32_form.spelling w.0 ++ l) w.4 ∙ sym (append_assoc (u32_form.spelling w.0) t rest)
            ∙ ap (λ n. (u32_form.spelling n ++ t) ++ rest) (sym w.3),
      );
}

module _ {V : Type 0} {f : Form V} (F : IsForm f) where
  pub IsForm-option_form : IsForm (option_form f)
  IsForm-option_form =
      IsForm-tagged_form option_number _
      (AreBodies-alternative option_number 0 (IsForm-constant_form None is_none refl none-is) none-tag
      (AreBodies-alternative option_number 1 (IsForm-variant_form Some itself some-is (λ v. refl) F)
      (variant-tag _ option_number 1 Some itself some-is (λ v. refl)) (AreBodies-no_alternative option_number)))
    where
      some-is : (o : Option V) (v : V) → itself o ≡ Some v → Some v ≡ o
      some-is o v e = sym e

      none-is : (o : Option V) → is_none o ≡ true → None ≡ o
      none-is None h = refl
      none-is (Some v) h = cc

      none-tag : (o : Option V) → is_none o ≡ true → option_number o ≡ 0
      none-tag None h = refl
      none-tag (Some v) h = cc
