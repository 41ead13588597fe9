use Rattle.std.proofs.Common.{◌≡◌, ℕ, List, OnOk, subst}
use Rattle.field_forms.proofs.AppendLemmas.{added-2}
use Rattle.checkpoint_bytes.proofs.batches.CoredFormFormOfBatch.append.Goals as goal

pub returns-clause-bytes : goal.returns-clause-bytes
returns-clause-bytes c =
    subst (λ (l : List ℕ). OnOk c.append_body.result (c.append_body.new.out ≡ l))
    (added-2 _ _ _ _ c.in_ok-push.ensures.ok)
    c.append_body.ensures.bytes
