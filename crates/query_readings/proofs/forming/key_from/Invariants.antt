use Rattle.std.proofs.Common.{◌≡◌, drop}
use Rattle.query_readings.specs.Reading as spec
use Rattle.query_readings.proofs.forming.key_from.Given as goal

abbrev pub invariant-loop-key : goal.invariant-loop-key
invariant-loop-key l =
    spec.key_from (drop l.key-index l.keys) l.expr ≡ spec.key_from l.keys l.expr
