use Rattle.std.proofs.Common.{◌≡◌, ◌<◌, Some, length, ap, sym, subst, ◌∙◌}
use Rattle.std.specs.Prelude.{slice_get}
use Rattle.std.proofs.lemmas.Option.{slice_get-get_or}
use Rattle.job_core.proofs.CoreLemmas.{stand-at}
use Rattle.job_core.proofs.job.Core.position.Goals as goal

pub returns : goal.returns
returns c = λ heard w h stands is.
    let core = c.args.self.now in
    let place = c.args.lane in
    let all = c.items-lanes.ensures in
    let lane = c.index-lanes-place.result in
    let at : slice_get core.lanes place ≡ Some lane =
    subst (λ xs. slice_get xs place ≡ Some lane) all
    (slice_get-get_or c.items-lanes.result.now place lane (subst (λ xs. place < length xs) (sym all) c.requires) ∙ ap Some (sym c.index-lanes-place.is)) in
    c.place.ensures ∙ (stand-at core.policy core.lanes heard w place lane h stands.lanes_stand at is).heard.place_is
