use Rattle.std.proofs.Common.{◌≡◌, drop}
use Rattle.query_readings.specs.Reading as spec
use Rattle.query_readings.proofs.forming.chain.Given as goal

abbrev pub invariant-loop-part : goal.invariant-loop-part
invariant-loop-part l =
    spec.chain l.scope l.place l.form l.so_far (drop l.part-index l.more) ≡
    spec.chain l.scope l.place l.form l.initial.so_far l.more
