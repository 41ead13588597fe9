-- Cores of which the lists aren't in order.
use Rattle.std.proofs.Common.{◌≡◌, ℕ, Bool, true, false, List, Option, Some, None, sym, ap, subst, ◌∙◌}
use Rattle.checkpoint_bytes.specs.CoreLaws.{IsForm-any_core_form}
use Rattle.checkpoint_bytes.specs.Cores.{any_core_form, core_form, is_core_in_order}
use Rattle.checkpoint_bytes.specs.declared.core_form.CoreForm.{CoreForm}
use Rattle.field_forms.proofs.WholeLemmas.{spells-once}
use Rattle.field_forms.specs.FormLaws.{and-first, and-second}
use Rattle.field_forms.specs.Spellings.{IsSpelling, IsWhole}

pub core-out_of_order : (bytes : List ℕ) (o : Option CoreForm) (core : CoreForm) → IsWhole any_core_form bytes o → o ≡ Some core
    → is_core_in_order core ≡ false → IsWhole core_form bytes None
core-out_of_order bytes o core whole e out = λ other s.
    let found : IsSpelling any_core_form core bytes = subst (λ p. IsWhole any_core_form bytes p) e whole in
    let any : IsSpelling any_core_form other bytes = (and-second (is_core_in_order other) (any_core_form.fits other) s.0, s.1) in
    let same = (spells-once IsForm-any_core_form).one_value bytes core other found any in
    both (is_core_in_order other) (and-first (is_core_in_order other) (any_core_form.fits other) s.0) (sym (ap is_core_in_order same) ∙ out)
  where
    both : (b : Bool) → b ≡ true → b ≡ false → ⊥
    both b p q = cc
