use Rattle.std.proofs.Common.{◌≡◌, ◌++◌}
use Rattle.std.specs.Iterator.Adapters.{zip_first, zip_second}
use Rattle.std.specs.Slice.Iter.{iter_rest}
use Rattle.preview_text.specs.PreviewText.{outputs_text}
use Rattle.preview_text.proofs.printing.push_outputs.Given as goal

-- what is printed, and what is still to come
abbrev pub invariant-loop-output : goal.invariant-loop-output
invariant-loop-output l =
    l.out ++ outputs_text (iter_rest (zip_first l.output-iterator)) (iter_rest (zip_second l.output-iterator)) ≡ l.fn.out ++ outputs_text l.outputs l.fn.rows
