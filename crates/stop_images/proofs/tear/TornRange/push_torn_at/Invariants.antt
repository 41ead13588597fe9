use Rattle.block_disk.specs.Stops.{TornWrite}
use Rattle.stop_images.specs.Listed.{AddsFiles}
use Rattle.stop_images.proofs.tear.TornRange.push_torn_at.Given as goal

abbrev pub invariant-tears : goal.invariant-tears
invariant-tears l = AddsFiles (TornWrite l.self.at l.self.count l.old) l.fn.images l.images
