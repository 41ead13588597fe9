use Rattle.std.proofs.Common.{◌≡◌, ◌++◌, drop}
use Rattle.preview_text.specs.PreviewText.{drops_text}
use Rattle.preview_text.proofs.printing.push_drops.Given as goal

abbrev pub invariant-loop-dropped : goal.invariant-loop-dropped
invariant-loop-dropped l =
    l.out ++ drops_text l.streams (drop l.dropped-index l.drops) ≡ l.fn.out ++ drops_text l.streams l.drops
