use Rattle.std.proofs.Common.{◌≡◌, get_or, subst, sym, ◌∙◌}
use Rattle.std.specs.Prelude.{Contains}
use Rattle.std.proofs.lemmas.List.Elements.{Contains-get_or}
use Rattle.block_disk.specs.Stops.{TornWrite}
use Rattle.stop_images.specs.Listed.{IsTornOf}
use Rattle.stop_images.proofs.ListLemmas.{AddsFiles-none, AddsFiles-more}
use Rattle.stop_images.proofs.walk.push_torn_images.Goals as goal

pub images-preserved : goal.images-preserved
images-preserved c =
    let at = c.args.range.now.at in
    let count = c.args.range.now.count in
    let images = c.args.images.now in
    let image = c.items.result.now in
    let item = c.image-item.result in
    let is : image ≡ get_or images c.images.image-index item = c.items.ensures ∙ c.image-item.is in
    let held : Contains images image =
    subst (Contains images) (sym is) (Contains-get_or images c.images.image-index item c.images-test.true) in
    AddsFiles-more (IsTornOf at count images) (TornWrite at count image) c.args.next.now c.images.next c.push_torn.new.images
    c.images.invariant c.in_ok-push_torn.ensures (λ file torn. (image, held, torn))
