use Rattle.std.proofs.Common.{◌≡◌, map, take}
use Rattle.query_meaning.specs.Meaning.{no_rows}
use Rattle.query_meaning.proofs.pipeline.no_rows_yet.Given as goal

abbrev pub invariant-loop-output : goal.invariant-loop-output
invariant-loop-output l = l.rows ≡ map no_rows (take l.output-index l.outputs)
