use Rattle.std.proofs.Common.{◌≡◌, ℕ, List, OnOk, subst}
use Rattle.field_forms.proofs.AppendLemmas.{added-2}
use Rattle.checkpoint_bytes.proofs.rows.RowFormFormOfRow.append.Goals as goal

pub returns-clause-bytes : goal.returns-clause-bytes
returns-clause-bytes c =
    subst (λ (l : List ℕ). OnOk c.append-2.result (c.append-2.new.out ≡ l))
    (added-2 _ _ _ _ c.in_ok-append.ensures.bytes)
    c.append-2.ensures.bytes
