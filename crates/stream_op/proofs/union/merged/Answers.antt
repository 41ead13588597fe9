use Rattle.std.proofs.Common.{◌≤◌, ◌⊎◌, ◌++◌, ap, sym, ◌∙◌, inl, inr, append_assoc, length, drop}
use Rattle.std.proofs.lemmas.List.{take_rest}
use Rattle.stream_op.proofs.UnionLemmas.{merge-ended}
use Rattle.stream_op.proofs.union.merged.Goals as goal
use Rattle.stream_op.proofs.union.merged.Goals.{then-loop-i-test+else-j-right, else-loop-i-test}

pub returns : goal.returns
returns c =
    let left = c.args.left.now in
    let right = c.args.right.now in
    let i = c.loop-i.i in
    let j = c.loop-i.j in
    let done : (length left ≤ i) ⊎ (length right ≤ j) =
    elim c.loop-i-test.branch [ then-loop-i-test+else-j-right w ↦ inr w.if-j-right.false | else-loop-i-test w ↦ inl w.loop-i-test.false ] in
    (rw take_rest at c.in_ok-push_rows-2.ensures)
    ∙ ap (λ rows. rows ++ drop j right) (rw take_rest at c.in_ok-push_rows.ensures)
    ∙ append_assoc c.loop-i.rows (drop i left) (drop j right)
    ∙ ap (λ rows. c.loop-i.rows ++ rows) (sym (merge-ended i j left right done))
    ∙ c.loop-i.invariant.rest
