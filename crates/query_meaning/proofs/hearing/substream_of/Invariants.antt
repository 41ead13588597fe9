use Rattle.std.proofs.Common.{◌≡◌, map, take}
use Rattle.expr_eval.specs.Values.{column}
use Rattle.query_meaning.proofs.hearing.substream_of.Given as goal

abbrev pub invariant-loop-place : goal.invariant-loop-place
invariant-loop-place l = l.key ≡ map (column l.values) (take l.place-index l.over)
