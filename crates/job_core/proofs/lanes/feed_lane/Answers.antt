use Rattle.std.proofs.Common.{◌≡◌, Some, ap, sym, subst, ◌∙◌}
use Rattle.std.specs.List.{insert, remove}
use Rattle.std.specs.Prelude.{slice_get}
use Rattle.std.proofs.lemmas.Option.{get_or_from_slice_get}
use Rattle.job_core.specs.Lane.{IsFed, IsSameLane, fed_entries}
use Rattle.job_core.proofs.CoreLemmas.{insert-remove}
use Rattle.job_core.proofs.lanes.feed_lane.Goals as goal

pub returns : goal.returns
returns c = λ lane at.
    let lanes = c.args.lanes in
    let place = c.args.place in
    let items = c.args.items.now in
    let all = c.into_vec-rest.ensures in
    let at_all : slice_get c.into_vec-rest.result.items place ≡ Some lane = subst (λ xs. slice_get xs place ≡ Some lane) (sym all) at in
    let taken : c.remove-lane.result ≡ lane = c.remove-lane.ensures.value ∙ get_or_from_slice_get c.into_vec-rest.result.items place lane c.remove-lane.result at_all in
    let new = c.in_ok-fed.fed in (
      new,
      c.from_vec.ensures
          ∙ c.in_ok-insert.ensures.items
          ∙ ap (λ xs. insert xs place new) (c.remove-lane.ensures.items ∙ ap (λ xs. remove xs place) all)
          ∙ insert-remove lanes place lane new at,
      subst (λ l. IsFed l (fed_entries l items c.args.n) new) taken c.in_ok-fed.ensures.fed,
      subst (λ l. IsSameLane l new) taken c.in_ok-fed.ensures.same,
    )
