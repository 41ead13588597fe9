use Rattle.std.proofs.Common.{◌++◌, ℕ, List, filter, ap, sym, ◌∙◌}
use Rattle.std.specs.List.{flat_map}
use Rattle.std.specs.Ordering.{nat_cmp}
use Rattle.event_value.specs.declared.record.Stamped.{Stamped}
use Rattle.row_groups.specs.Distinct.{distinct}
use Rattle.window_flow.specs.Groups.{is_within}
use Rattle.window_flow.specs.Sliding.{moments_of, slides_at}
use Rattle.window_flow.specs.SlidingLaws.{slides-within}
use Rattle.window_flow.proofs.sliding.SlidingSpecParts.push_rows.Goals as goal

pub returns : goal.returns
returns c = λ o.
    let spec = c.args.self.now in
    let key = c.args.part.now in
    let rows = c.args.rows.now in
    let within = is_within c.args.from c.args.upto in
    c.in_ok-push_slides.ensures o
    ∙ ap (λ (xs : List ℕ). c.args.given.now ++ slides_at spec key rows xs) (c.in_ok-moments.ensures
    ∙ ap (λ (n : ℕ). distinct nat_cmp (filter within (flat_map (moments_of n) rows))) c.ticks.ensures.value)
    ∙ ap (λ (l : List Stamped). c.args.given.now ++ l) (sym (slides-within within spec key rows))
