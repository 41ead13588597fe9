use Rattle.std.proofs.Common.{◌≡◌, take}
use Rattle.query_meaning.specs.Ready as spec
use Rattle.query_meaning.proofs.ready.ready_steps.Given as goal

abbrev pub invariant-loop-step : goal.invariant-loop-step
invariant-loop-step l =
    l.ready ≡ spec.ready_steps l.references l.widths l.versions (take l.step-index l.steps)
