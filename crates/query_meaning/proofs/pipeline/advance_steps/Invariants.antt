use Rattle.std.proofs.Common.{◌≡◌, ◌≤◌, List, [], take, drop}
use Rattle.event_value.specs.declared.record.Stamped.{Stamped}
use Rattle.query_meaning.specs.Lists.{AllInOrder, AreNew, all_between}
use Rattle.query_meaning.specs.Pipeline.{AreGiven}
use Rattle.query_meaning.specs.Steps.{rows_of_steps}
use Rattle.query_meaning.proofs.pipeline.advance_steps.Given as goal

-- the steps so far have their new rows, their operators have gone on, and the others are to go on
abbrev pub invariant-loop-step : goal.invariant-loop-step
invariant-loop-step l = (streams : List (List Stamped)) → l.from ≤ l.upto → AllInOrder streams → AreNew l.from l.upto streams l.sources
    → AreGiven streams [] l.fn.ops.items l.steps l.from → record {
      done_are : l.done ≡ all_between l.from l.upto (rows_of_steps streams (take l.step-index l.steps));
      rest_given : AreGiven streams (rows_of_steps streams (take l.step-index l.steps)) l.rest.items (drop l.step-index l.steps) l.from;
      next_given : AreGiven streams [] l.next (take l.step-index l.steps) l.upto;
    }
