use Rattle.block_disk.specs.Stops.{TornWrite}
use Rattle.stop_images.specs.Listed.{AddsFiles}
use Rattle.stop_images.proofs.tear.TornRange.push_torn.Given as goal

abbrev pub invariant-cuts : goal.invariant-cuts
invariant-cuts l = AddsFiles (TornWrite l.self.at l.self.count l.old) l.fn.images l.images
