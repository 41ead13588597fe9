use Rattle.std.proofs.Common.{List, [], take}
use Rattle.event_value.specs.declared.record.Stamped.{Stamped}
use Rattle.query_meaning.specs.Pipeline.{AreGiven}
use Rattle.query_meaning.proofs.pipeline.Pipeline.begin.Given as goal

abbrev pub invariant-loop-step : goal.invariant-loop-step
invariant-loop-step l = (streams : List (List Stamped)) → AreGiven streams [] l.ops (take l.step-index l.steps) 0
