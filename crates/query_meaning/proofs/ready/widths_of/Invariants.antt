use Rattle.std.proofs.Common.{◌≡◌, [], drop}
use Rattle.query_meaning.specs.Ready as spec
use Rattle.query_meaning.proofs.ready.widths_of.Given as goal

-- those of the steps so far, and behind them those of the rest, are those of all steps
abbrev pub invariant-loop-step : goal.invariant-loop-step
invariant-loop-step l =
    spec.widths_behind l.streams l.references l.done (drop l.step-index l.steps)
    ≡ spec.widths_behind l.streams l.references [] l.steps
