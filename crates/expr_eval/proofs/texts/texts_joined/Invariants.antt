use Rattle.std.proofs.Common.{◌≡◌, take}
use Rattle.std.specs.List.{flat_map}
use Rattle.expr_eval.specs.Texts.{bytes_of}
use Rattle.expr_eval.proofs.texts.texts_joined.Given as goal

abbrev pub invariant-loop-value : goal.invariant-loop-value
invariant-loop-value l = l.text ≡ flat_map bytes_of (take l.value-index l.values)
