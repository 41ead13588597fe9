use Rattle.std.proofs.Common.{◌≡◌, ℕ, List, OnOk, subst}
use Rattle.field_forms.proofs.AppendLemmas.{added-5}
use Rattle.checkpoint_bytes.proofs.batches.append_body.Goals as goal

pub returns-clause-bytes : goal.returns-clause-bytes
returns-clause-bytes c =
    subst (λ (l : List ℕ). OnOk c.append_option.result (c.append_option.new.out ≡ l))
    (added-5 _ _ _ _ _ _ _ _ _ _ c.in_ok-append.ensures.bytes c.in_ok-append_list.ensures.bytes c.in_ok-append-2.ensures.bytes c.in_ok-append-3.ensures.bytes)
    c.append_option.ensures.bytes
