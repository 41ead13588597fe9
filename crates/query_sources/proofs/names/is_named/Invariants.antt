use Rattle.std.proofs.Common.{◌≡◌, drop}
use Rattle.query_sources.specs.Names as spec
use Rattle.query_sources.proofs.names.is_named.Given as goal

abbrev pub invariant-loop-name : goal.invariant-loop-name
invariant-loop-name l =
    spec.is_named (drop l.name-index l.names) l.text ≡ spec.is_named l.names l.text
