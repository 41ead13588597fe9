use Rattle.stop_images.specs.Listed.{AddsFiles, IsTornOf}
use Rattle.stop_images.proofs.walk.push_torn_images.Given as goal

abbrev pub invariant-images : goal.invariant-images
invariant-images l = AddsFiles (IsTornOf l.range.at l.range.count l.images) l.fn.next l.next
