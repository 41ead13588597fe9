use Rattle.std.proofs.Common.{◌≡◌, take}
use Rattle.std.specs.Prelude.{reverse}
use Rattle.stop_images.proofs.WalkLemmas.{AreListed, IsListed}
use Rattle.stop_images.proofs.images.images_of_calls.Given as goal

abbrev pub invariant-calls : goal.invariant-calls
invariant-calls l = record {
  moment : l.moment ≡ l.call-index;
  here : AreListed l.first (reverse (take l.call-index l.calls)) l.file l.images;
  all : IsListed l.first l.calls l.since l.call-index l.file l.listed;
}
