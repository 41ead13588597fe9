use Rattle.std.proofs.Common.{ℕ, ◌+◌, List, [], ◌∷◌, ap, ◌∙◌}
use Rattle.std.specs.Ordering.{nat_cmp}
use Rattle.std.specs.Prelude.{filter}
use Rattle.row_groups.specs.Distinct.{with_each}
use Rattle.window_flow.specs.Groups.{is_within}
use Rattle.window_flow.proofs.MomentLemmas.{moments-more}
use Rattle.window_flow.proofs.sliding.moments_within.Goals as goal

pub loop-row-preserved : goal.loop-row-preserved
loop-row-preserved c =
    let size = c.args.size in
    let row = c.row-item.result in
    let q = is_within c.args.from c.args.upto in
    let at = c.count-time.ensures.value in
    c.in_ok-put_moment-2.ensures
    ∙ ap (λ (t : ℕ). with_each nat_cmp c.put_moment.new.moments.keys (filter q ((t + size) ∷ []))) at
    ∙ ap (λ (ks : List ℕ). with_each nat_cmp ks (filter q ((row.time + size) ∷ []))) (c.in_ok-put_moment.ensures
    ∙ ap (λ (t : ℕ). with_each nat_cmp c.loop-row.moments.keys (filter q (t ∷ []))) at
    ∙ ap (λ (ks : List ℕ). with_each nat_cmp ks (filter q (row.time ∷ []))) c.loop-row.invariant)
    ∙ moments-more q size c.args.rows.now c.loop-row.row-index row c.loop-row-test.true c.row-item.is
