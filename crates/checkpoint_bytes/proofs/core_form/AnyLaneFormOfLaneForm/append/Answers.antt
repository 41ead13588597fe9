use Rattle.std.proofs.Common.{◌≡◌, ℕ, List, OnOk, subst}
use Rattle.field_forms.proofs.AppendLemmas.{added-4}
use Rattle.checkpoint_bytes.proofs.core_form.AnyLaneFormOfLaneForm.append.Goals as goal

pub returns-clause-bytes : goal.returns-clause-bytes
returns-clause-bytes c =
    subst (λ (l : List ℕ). OnOk c.append-4.result (c.append-4.new.out ≡ l))
    (added-4 _ _ _ _ _ _ _ _ c.in_ok-append.ensures.bytes c.in_ok-append-2.ensures.bytes c.in_ok-append-3.ensures.bytes)
    c.append-4.ensures.bytes
