use Rattle.std.proofs.Common.{◌≡◌, ℕ, List, OnOk, subst}
use Rattle.field_forms.proofs.AppendLemmas.{added-3}
use Rattle.checkpoint_bytes.proofs.core_form.AnyCoreFormOfCoreForm.append.Goals as goal

pub returns-clause-bytes : goal.returns-clause-bytes
returns-clause-bytes c =
    subst (λ (l : List ℕ). OnOk c.append.result (c.append.new.out ≡ l))
    (added-3 _ _ _ _ _ _ c.in_ok-append_list.ensures.bytes c.in_ok-append_list-2.ensures.bytes)
    c.append.ensures.bytes
