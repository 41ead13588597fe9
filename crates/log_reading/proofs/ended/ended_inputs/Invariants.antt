use Rattle.std.proofs.Common.{◌≡◌, map, take}
use Rattle.log_reading.specs.Ended.{ended_stream}
use Rattle.log_reading.proofs.ended.ended_inputs.Given as goal

-- the streams so far
abbrev pub invariant-loop-stream : goal.invariant-loop-stream
invariant-loop-stream l = l.streams ≡ map ended_stream (take l.stream-index l.inputs.streams)
