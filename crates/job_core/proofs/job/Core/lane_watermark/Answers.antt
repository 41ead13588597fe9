use Rattle.std.proofs.Common.{◌≡◌, Some, ap, sym, subst, ◌∙◌}
use Rattle.std.specs.Prelude.{slice_get}
use Rattle.std.proofs.lemmas.Option.{get_or_from_slice_get}
use Rattle.job_core.specs.Lane.{own_watermark}
use Rattle.job_core.proofs.CoreLemmas.{own-mark, stand-at}
use Rattle.job_core.proofs.job.Core.lane_watermark.Goals as goal

pub returns : goal.returns
returns c = λ heard w h stands is lane at.
    let core = c.args.self.now in
    let place = c.args.lane in
    let all = c.items-lanes.ensures in
    let found : c.index-lanes-place.result ≡ lane =
    c.index-lanes-place.is ∙ get_or_from_slice_get c.items-lanes.result.now place lane c.index-lanes-place.result (subst (λ xs. slice_get xs place ≡ Some lane) (sym all) at) in
    c.watermark.ensures
    ∙ ap own_watermark found
    ∙ own-mark core.policy lane h w (stand-at core.policy core.lanes heard w place lane h stands.lanes_stand at is)
