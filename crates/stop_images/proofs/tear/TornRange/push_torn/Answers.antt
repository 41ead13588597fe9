use Rattle.block_disk.specs.Stops.{TornWrite}
use Rattle.block_disk.proofs.StopLemmas.{TornWrite-none}
use Rattle.stop_images.proofs.ListLemmas.{AddsFiles-none, AddsFiles-push, AddsFiles-then}
use Rattle.stop_images.proofs.tear.TornRange.push_torn.Goals as goal

pub cuts-preserved : goal.cuts-preserved
cuts-preserved c =
    AddsFiles-then (TornWrite c.args.self.now.at c.args.self.now.count c.args.old.now) c.args.images.now c.cuts.images
    c.push_torn_at.new.images c.cuts.invariant c.in_ok-push_torn_at.ensures
