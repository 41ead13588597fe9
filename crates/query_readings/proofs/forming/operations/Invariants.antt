use Rattle.std.proofs.Common.{◌≡◌, drop}
use Rattle.query_readings.specs.Reading as spec
use Rattle.query_readings.proofs.forming.operations.Given as goal

abbrev pub invariant-loop-part : goal.invariant-loop-part
invariant-loop-part l =
    spec.operations l.scope l.place l.so_far (drop l.part-index l.more) ≡
    spec.operations l.scope l.place l.initial.so_far l.more
