use Rattle.std.proofs.Common.{◌≡◌, ◌++◌, drop, length, map}
use Rattle.query_meaning.specs.Lists.{behind_each}
use Rattle.query_meaning.specs.Meaning.{output_rows}
use Rattle.query_meaning.proofs.pipeline.with_outputs.Given as goal

-- the lists so far, and behind them those that are still to be made
abbrev pub invariant-loop-output : goal.invariant-loop-output
invariant-loop-output l = length l.fn.given ≡ length l.outputs → record {
  as_many : length l.rest.items ≡ length (drop l.output-index l.outputs);
  rows_are : l.rows ++ behind_each l.rest.items (map (output_rows l.done) (drop l.output-index l.outputs))
      ≡ behind_each l.fn.given (map (output_rows l.done) l.outputs);
}
