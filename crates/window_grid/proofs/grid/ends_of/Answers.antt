use Rattle.std.proofs.Common.{◌+◌, ◌-◌, ◌*◌, ◌/◌, ◌++◌, List, ℕ, ap, ◌∙◌}
use Rattle.window_grid.proofs.EndLemmas.{end_within-more}
use Rattle.window_grid.specs.State.{end_within}
use Rattle.window_grid.proofs.grid.ends_of.Goals as goal

pub loop-place-preserved : goal.loop-place-preserved
loop-place-preserved c =
    let hop = c.args.hop in
    let first = (c.args.time + (hop - 1)) / hop in
    let place = c.loop-place.place in
    let limit = c.args.time + c.args.size in
    c.in_ok-push_end.ensures
    ∙ ap (λ (ends : List ℕ). ends ++ end_within ((first + place) * hop) limit) c.loop-place.invariant
    ∙ end_within-more hop first place limit
