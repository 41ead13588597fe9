use Rattle.std.proofs.Common.{ℕ, List, subst}
use Rattle.std.specs.Prelude.{All, IfOk}
use Rattle.block_disk.specs.declared.call.Call.{Call}
use Rattle.block_disk.specs.Images.{IsImageSince}
use Rattle.stop_images.specs.Listed.{history_of}
use Rattle.stop_images.proofs.images.images_since.Goals as goal

pub returns-clause-images : goal.returns-clause-images
returns-clause-images c =
    subst (λ (l : List Call). IfOk c.images_of_calls.result (All (IsImageSince (history_of c.args.disk.now.history.first l) c.args.since)))
    c.calls.ensures
    (subst (λ (l : List ℕ). IfOk c.images_of_calls.result (All (IsImageSince (history_of l c.calls.result.now) c.args.since)))
    c.first.ensures c.images_of_calls.ensures.images)
