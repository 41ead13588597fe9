use Rattle.std.proofs.Common.{◌≡◌, rules, ap, ◌∙◌}
use Rattle.std.proofs.lemmas.List.Sorted.{IsNonDecreasingBy-from_sort, answers_always}
use Rattle.row_order.specs.InOrder.{in_order}
use Rattle.row_order.proofs.StableLemmas.{stable-in_order}
use Rattle.row_order.proofs.ordering.put_in_order.Goals as goal

pub returns : goal.returns
returns g c =
    let time = g.T.Timed.time_of in
    let answers = answers_always _ (λ a r. r ≡ time a.0.now) _ (λ f a r q k. search rules) in
    c.from_vec.ensures
    ∙ stable-in_order time c.into_vec-rows.result.items c.sort_by_key.new.self.items
    (IsNonDecreasingBy-from_sort time _ (c.in_ok-sort_by_key.ensures.sorted time answers))
    (c.sort_by_key.ensures.stable time answers)
    ∙ ap (in_order time) c.into_vec-rows.ensures
