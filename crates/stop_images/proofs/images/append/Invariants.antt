use Rattle.std.proofs.Common.{◌≡◌, ◌++◌, take}
use Rattle.stop_images.proofs.images.append.Given as goal

abbrev pub invariant-files : goal.invariant-files
invariant-files l = l.list ≡ l.fn.list ++ take l.file-index l.files
