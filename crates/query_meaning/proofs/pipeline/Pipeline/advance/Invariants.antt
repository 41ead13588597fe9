use Rattle.std.proofs.Common.{◌≡◌, ◌≤◌, ℕ, List}
use Rattle.event_value.specs.declared.record.Stamped.{Stamped}
use Rattle.query_meaning.specs.Lists.{AreNew, all_between}
use Rattle.query_meaning.specs.Meaning.{outputs_over}
use Rattle.query_meaning.specs.Pipeline.{IsAt}
use Rattle.query_meaning.proofs.pipeline.Pipeline.advance.Given as goal

-- the pipeline is at the end of a piece, and the outputs have their rows up to there
abbrev pub invariant-loop-piece : goal.invariant-loop-piece
invariant-loop-piece l = (streams : List (List Stamped)) (w : ℕ) → IsAt l.fn.self l.plan streams w → w ≤ l.upto
    → AreNew w l.upto streams l.sources → record {
      later : w ≤ l.pipeline.upto;
      within : l.pipeline.upto ≤ l.upto;
      at : IsAt l.pipeline l.plan streams l.pipeline.upto;
      rows_are : l.rows ≡ all_between w l.pipeline.upto (outputs_over l.plan streams);
    }
