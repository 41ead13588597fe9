use Rattle.std.proofs.Common.{◌≡◌, Some, ap, sym, subst, ◌∙◌}
use Rattle.std.specs.Prelude.{slice_get}
use Rattle.std.proofs.lemmas.Option.{slice_get-get_or}
use Rattle.job_core.proofs.job.Core.has_unread.Goals as goal

pub returns-then-place-count : goal.returns-then-place-count
returns-then-place-count c = λ found.
    let place = c.args.lane in
    let lane = c.index-lanes-place.result in (
      lane,
      subst (λ xs. slice_get xs place ≡ Some lane) c.items-lanes.ensures
          (slice_get-get_or c.items-lanes.result.now place lane c.if-place-count.true ∙ ap Some (sym c.index-lanes-place.is)),
      c.has_unread.ensures.0 found,
    )
