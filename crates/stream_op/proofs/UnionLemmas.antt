-- Where one of two lists has ended, the other's rows follow.
use Rattle.std.proofs.Common.{◌≡◌, ℕ, ◌≤◌, ◌⊎◌, inl, inr, List, ◌++◌, drop, length, sym, refl, ◌∙◌, append-nil}
use Rattle.std.proofs.lemmas.List.{drop_all}
use Rattle.event_value.specs.declared.record.Stamped.{Stamped}
use Rattle.row_order.specs.Merge.{merge}
use Rattle.row_order.proofs.MergeLemmas.{merge-nil}
use Rattle.stream_op.specs.Rows.{time_of}

pub merge-ended : (i j : ℕ) (left right : List Stamped) → (length left ≤ i) ⊎ (length right ≤ j)
    → merge time_of (drop i left) (drop j right) ≡ drop i left ++ drop j right
merge-ended i j left right (inl h) = rw (drop_all i left h) refl
merge-ended i j left right (inr h) = rw (drop_all j right h) (merge-nil time_of (drop i left) ∙ sym (append-nil (drop i left)))
